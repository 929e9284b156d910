use Rattle.njh_open.proofs.VerdictLaws.{given_line, answered_ack}
use Rattle.njh_open.proofs.laws.a_line_is_named.Goals as goal

pub returns-clause-given : goal.returns-clause-given
returns-clause-given c = given_line

pub returns-clause-answered : goal.returns-clause-answered
returns-clause-answered c = answered_ack
