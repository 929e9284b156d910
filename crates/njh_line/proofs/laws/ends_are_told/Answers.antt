use Rattle.njh_line.proofs.EndLaws as laws
use Rattle.njh_line.proofs.laws.ends_are_told.Goals as goal

pub returns : goal.returns
returns c = laws.told
