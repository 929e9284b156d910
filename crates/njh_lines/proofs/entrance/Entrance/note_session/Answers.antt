use Rattle.njh_lines.proofs.EntranceLaws.{session_of_peer}
use Rattle.njh_lines.proofs.entrance.Entrance.note_session.Goals as goal

-- the peer's address had a session
pub returns-in-Some-clause-noted : goal.returns-in-Some-clause-noted
returns-in-Some-clause-noted g c = session_of_peer c.args.self.now c.in-Some.address c.ip.result c.session.new.self c.in-Some.is
    c.ip.ensures c.session.ensures.remembered c.session.ensures.waiting
