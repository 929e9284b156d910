use Rattle.njh_hub.proofs.RunLaws as laws
use Rattle.njh_hub.proofs.laws.each_is_alone.Goals as goal

pub returns : goal.returns
returns c = laws.each_is_alone
