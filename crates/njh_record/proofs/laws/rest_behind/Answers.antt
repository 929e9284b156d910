use Rattle.njh_record.proofs.ReadBack.{rest_behind}
use Rattle.njh_record.proofs.laws.rest_behind.Goals as goal

pub returns : goal.returns
returns c = rest_behind
