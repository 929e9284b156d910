use Rattle.serde_json.specs.View.{view}
use Rattle.njh_ctl.proofs.RowLaws.{HasRows-more, HasRows-none, map_take_more}
use Rattle.njh_ctl.specs.ShownLines.{IsGuestRow}
use Rattle.njh_ctl.proofs.shown_lines.show_guests.Goals as goal

pub loop-guest-init : goal.loop-guest-init
loop-guest-init c = HasRows-none IsGuestRow c.args.out.now

pub loop-guest-preserved : goal.loop-guest-preserved
loop-guest-preserved c =
    HasRows-more IsGuestRow _ _
    (view c.guest-item.result) c.args.out.now c.loop-guest.out c.show_guest.new.out
    c.loop-guest.invariant c.in_ok-show_guest.ensures.shown
    (map_take_more view c.args.guests.now c.loop-guest.guest-index c.guest-item.result c.loop-guest-test.true
    c.guest-item.is)
