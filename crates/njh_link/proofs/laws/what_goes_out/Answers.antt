use Rattle.njh_link.proofs.OutLaws.{goes_out}
use Rattle.njh_link.proofs.laws.what_goes_out.Goals as goal

pub returns : goal.returns
returns c = goes_out
