use Rattle.njh_spoolfile.proofs.ListLaws.{comes_last}
use Rattle.njh_spoolfile.proofs.laws.a_file_comes_last.Goals as goal

pub returns : goal.returns
returns c = comes_last
