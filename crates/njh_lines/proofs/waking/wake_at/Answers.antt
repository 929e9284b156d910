use Rattle.njh_lines.proofs.CallLaws.{none_woken, one_woken}
use Rattle.njh_lines.proofs.waking.wake_at.Goals as goal

-- it is called where it is to be woken
pub returns-then-is_wanted-clause-calls : goal.returns-then-is_wanted-clause-calls
returns-then-is_wanted-clause-calls g c =
    one_woken c.args.exchange.now c.args.hub.now c.args.place c.args.customer c.call.new.exchange.watches
    (c.is_wanted.ensures.0 c.if-is_wanted.true) c.call.ensures.calls c.call.ensures.others

pub returns-else-is_wanted-clause-calls : goal.returns-else-is_wanted-clause-calls
returns-else-is_wanted-clause-calls g c = none_woken c.args.exchange.now c.args.hub.now
