use Rattle.njh_line.proofs.UpLaws as laws
use Rattle.njh_line.proofs.laws.inputs_keep_up.Goals as goal

pub returns : goal.returns
returns c = laws.inputs_keep_up
