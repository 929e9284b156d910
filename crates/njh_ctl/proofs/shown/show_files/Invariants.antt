use Rattle.std.proofs.Common.{map, take}
use Rattle.serde_json.specs.View.{view}
use Rattle.njh_ctl.proofs.RowLaws.{HasRows}
use Rattle.njh_ctl.specs.Shown.{IsFileRow}
use Rattle.njh_ctl.proofs.shown.show_files.Given as goal

abbrev pub invariant-loop-file : goal.invariant-loop-file
invariant-loop-file l = HasRows (IsFileRow l.customer) (map view (take l.file-index l.files)) l.fn.out l.out
