use Rattle.njh_lines.proofs.EntranceLaws.{end_of_peer}
use Rattle.njh_lines.proofs.entrance.Entrance.part.Goals as goal

-- that is remembered of the peer's address
pub returns-in-Some-clause-noted : goal.returns-in-Some-clause-noted
returns-in-Some-clause-noted g c = end_of_peer c.args.self.now c.in-Some.address c.ip.result c.end_without_session.new.self
    c.args.had_session c.args.was_refused c.args.now c.in-Some.is c.ip.ensures
    c.end_without_session.ensures.remembered c.end_without_session.ensures.waiting c.else-had_session.either
