use Rattle.njh_spoolfile.proofs.ListLaws.{added_in_part, dropped_in_part}
use Rattle.njh_spoolfile.proofs.laws.records_in_part_do_not_show.Goals as goal

pub returns-clause-added : goal.returns-clause-added
returns-clause-added c = added_in_part

pub returns-clause-dropped : goal.returns-clause-dropped
returns-clause-dropped c = dropped_in_part
