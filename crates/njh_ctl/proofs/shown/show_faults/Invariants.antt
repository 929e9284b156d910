use Rattle.std.proofs.Common.{map, take}
use Rattle.serde_json.specs.View.{view}
use Rattle.njh_ctl.proofs.RowLaws.{HasRows}
use Rattle.njh_ctl.specs.Shown.{IsFault}
use Rattle.njh_ctl.proofs.shown.show_faults.Given as goal

abbrev pub invariant-loop-fault : goal.invariant-loop-fault
invariant-loop-fault l = HasRows IsFault (map view (take l.fault-index l.faults)) l.fn.out l.out
