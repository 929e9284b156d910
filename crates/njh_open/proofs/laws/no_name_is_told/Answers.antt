use Rattle.njh_open.proofs.VerdictLaws.{told_names}
use Rattle.njh_open.proofs.laws.no_name_is_told.Goals as goal

pub returns : goal.returns
returns c = told_names
