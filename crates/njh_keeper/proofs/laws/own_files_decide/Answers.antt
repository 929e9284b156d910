use Rattle.njh_keeper.proofs.HubLaws.{own_decide}
use Rattle.njh_keeper.proofs.laws.own_files_decide.Goals as goal

pub returns : goal.returns
returns c = own_decide
