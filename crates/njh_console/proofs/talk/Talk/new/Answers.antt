use Rattle.njh_console.proofs.TalkLaws.{asks_nothing_at_first}
use Rattle.http_server.specs.Connection.{history}
use Rattle.njh_console.proofs.talk.Talk.new.Goals as goal

-- nothing came, so nothing is asked
pub invariant_of-result : goal.invariant_of-result
invariant_of-result c =
    (c.new.ensures.config, λ is. asks_nothing_at_first (history c.new.result) c.new.ensures.history)
