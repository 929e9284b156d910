use Rattle.njh_spoolfile.proofs.ReopeningLaws.{empty_found}
use Rattle.njh_spoolfile.proofs.laws.an_empty_file_has_no_files.Goals as goal

pub returns : goal.returns
returns c = empty_found
