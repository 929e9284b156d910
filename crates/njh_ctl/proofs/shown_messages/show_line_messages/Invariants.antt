use Rattle.std.proofs.Common.{map, take}
use Rattle.serde_json.specs.View.{view}
use Rattle.njh_ctl.proofs.RowLaws.{HasRows}
use Rattle.njh_ctl.specs.ShownMessages.{AreLineMessages}
use Rattle.njh_ctl.proofs.shown_messages.show_line_messages.Given as goal

abbrev pub invariant-loop-line : goal.invariant-loop-line
invariant-loop-line l = HasRows (AreLineMessages l.customer) (map view (take l.line-index l.lines)) l.fn.out l.out
