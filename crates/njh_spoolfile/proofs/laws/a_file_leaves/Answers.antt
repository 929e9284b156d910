use Rattle.njh_spoolfile.proofs.ListLaws.{leaves}
use Rattle.njh_spoolfile.proofs.laws.a_file_leaves.Goals as goal

pub returns : goal.returns
returns c = leaves
