use Rattle.njh_tcp.proofs.HeardRun.{outcomes-shut, rest-shut}
use Rattle.njh_tcp.proofs.laws.a_refusal_is_last.Goals as goal

pub returns-clause-given : goal.returns-clause-given
returns-clause-given c = outcomes-shut

pub returns-clause-stays : goal.returns-clause-stays
returns-clause-stays c = rest-shut
