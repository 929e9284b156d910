use Rattle.njh_hub.proofs.RunLaws as laws
use Rattle.njh_hub.proofs.laws.customers_never_meet.Goals as goal

pub returns : goal.returns
returns c = laws.customers_never_meet
