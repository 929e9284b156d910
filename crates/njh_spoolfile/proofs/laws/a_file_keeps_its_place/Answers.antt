use Rattle.njh_spoolfile.proofs.ListLaws.{keeps_place}
use Rattle.njh_spoolfile.proofs.laws.a_file_keeps_its_place.Goals as goal

pub returns : goal.returns
returns c = keeps_place
