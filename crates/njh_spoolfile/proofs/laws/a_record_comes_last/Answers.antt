use Rattle.njh_spoolfile.proofs.ListLaws.{last}
use Rattle.njh_spoolfile.proofs.laws.a_record_comes_last.Goals as goal

pub returns : goal.returns
returns c r spool numbered up low lower = last r low spool.records numbered up lower
