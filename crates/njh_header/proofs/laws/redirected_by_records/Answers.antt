use Rattle.njh_header.proofs.Redirected.{redirected_is}
use Rattle.njh_header.proofs.laws.redirected_by_records.Goals as goal

pub returns : goal.returns
returns c = redirected_is
