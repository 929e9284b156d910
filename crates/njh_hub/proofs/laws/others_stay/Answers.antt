use Rattle.njh_hub.proofs.RunLaws as laws
use Rattle.njh_hub.proofs.laws.others_stay.Goals as goal

pub returns : goal.returns
returns c = laws.others_stay
