use Rattle.njh_hub.proofs.RunLaws as laws
use Rattle.njh_hub.proofs.laws.own_step_is_own.Goals as goal

pub returns : goal.returns
returns c = laws.own_step_is_own
