use Rattle.njh_sched.proofs.FrontLaws as laws
use Rattle.njh_sched.proofs.laws.longest_fronts_fill.Goals as goal

pub returns : goal.returns
returns c = laws.longest_fronts_fill
