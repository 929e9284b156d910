use Rattle.njh_stream.proofs.OutcomeLaws.{some_outcome, only_one}
use Rattle.njh_stream.proofs.laws.one_outcome.Goals as goal

pub returns-clause-some : goal.returns-clause-some
returns-clause-some c = some_outcome

pub returns-clause-one : goal.returns-clause-one
returns-clause-one c = only_one
