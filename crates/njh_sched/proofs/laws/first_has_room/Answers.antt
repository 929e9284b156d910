use Rattle.njh_sched.proofs.FirstLaws as laws
use Rattle.njh_sched.proofs.laws.first_has_room.Goals as goal

pub returns : goal.returns
returns c = laws.first_has_room
