use Rattle.njh_arrivals.proofs.ArrivalLaws as laws
use Rattle.njh_arrivals.proofs.laws.noted_is_told.Goals as goal

pub returns : goal.returns
returns c = laws.noted_is_told
