use Rattle.njh_keeper.proofs.TriedAlone.{nothing_aside}
use Rattle.njh_keeper.proofs.laws.nothing_is_set_aside.Goals as goal

pub returns : goal.returns
returns c = nothing_aside
