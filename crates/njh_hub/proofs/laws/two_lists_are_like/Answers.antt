use Rattle.njh_hub.proofs.RunLaws as laws
use Rattle.njh_hub.proofs.laws.two_lists_are_like.Goals as goal

pub returns : goal.returns
returns c = laws.two_lists_are_like
