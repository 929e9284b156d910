use Rattle.njh_link.proofs.OutLaws.{is_given}
use Rattle.njh_link.proofs.laws.what_is_given.Goals as goal

pub returns : goal.returns
returns c = is_given
