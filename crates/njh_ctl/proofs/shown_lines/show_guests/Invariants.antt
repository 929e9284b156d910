use Rattle.std.proofs.Common.{map, take}
use Rattle.serde_json.specs.View.{view}
use Rattle.njh_ctl.proofs.RowLaws.{HasRows}
use Rattle.njh_ctl.specs.ShownLines.{IsGuestRow}
use Rattle.njh_ctl.proofs.shown_lines.show_guests.Given as goal

abbrev pub invariant-loop-guest : goal.invariant-loop-guest
invariant-loop-guest l = HasRows IsGuestRow (map view (take l.guest-index l.guests)) l.fn.out l.out
