use Rattle.njh_keeper.proofs.OpenedLaws.{opened_files}
use Rattle.njh_keeper.proofs.laws.files_stand_again.Goals as goal

pub returns : goal.returns
returns c = opened_files
