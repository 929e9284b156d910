use Rattle.njh_keeper.proofs.StartedLaws.{started_again}
use Rattle.njh_keeper.proofs.laws.started_again_each_is_alone.Goals as goal

pub returns : goal.returns
returns c = started_again
