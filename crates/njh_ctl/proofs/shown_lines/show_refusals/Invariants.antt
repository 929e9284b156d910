use Rattle.std.proofs.Common.{map, take}
use Rattle.serde_json.specs.View.{view}
use Rattle.njh_ctl.proofs.RowLaws.{HasRows}
use Rattle.njh_ctl.specs.ShownLines.{IsRefusalRow}
use Rattle.njh_ctl.proofs.shown_lines.show_refusals.Given as goal

abbrev pub invariant-loop-address : goal.invariant-loop-address
invariant-loop-address l = HasRows IsRefusalRow (map view (take l.address-index l.refused)) l.fn.out l.out
