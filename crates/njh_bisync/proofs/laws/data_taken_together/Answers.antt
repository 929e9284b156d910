use Rattle.njh_bisync.proofs.PlainLaws.{fed-plain}
use Rattle.njh_bisync.proofs.laws.data_taken_together.Goals as goal

pub returns : goal.returns
returns c = fed-plain
