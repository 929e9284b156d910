use Rattle.njh_spoolfile.proofs.ListLaws.{others_stay}
use Rattle.njh_spoolfile.proofs.laws.others_do_not_show.Goals as goal

pub returns : goal.returns
returns c = others_stay
