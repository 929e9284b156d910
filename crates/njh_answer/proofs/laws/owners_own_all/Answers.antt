use Rattle.njh_answer.proofs.OwnerLaws as laws
use Rattle.njh_answer.proofs.laws.owners_own_all.Goals as goal

pub returns : goal.returns
returns c = laws.owners_own_all
