use Rattle.{std.proofs.Common.ap, njh_spoolfile.proofs.ListLaws.others_stay, njh_keeper.specs.Opened.is_own}
use Rattle.njh_keeper.specs.Opened.{part_opened}
use Rattle.njh_keeper.proofs.laws.a_file_of_another_does_not_show.Goals as goal

pub returns : goal.returns
returns c entry name id file spool above other =
    ap (part_opened entry) (others_stay (is_own name) id file spool above other)
