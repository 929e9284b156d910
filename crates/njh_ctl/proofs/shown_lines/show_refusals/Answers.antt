use Rattle.serde_json.specs.View.{view}
use Rattle.njh_ctl.proofs.RowLaws.{HasRows-more, HasRows-none, map_take_more}
use Rattle.njh_ctl.specs.ShownLines.{IsRefusalRow}
use Rattle.njh_ctl.proofs.shown_lines.show_refusals.Goals as goal

pub loop-address-init : goal.loop-address-init
loop-address-init c = HasRows-none IsRefusalRow c.args.out.now

pub loop-address-preserved : goal.loop-address-preserved
loop-address-preserved c =
    HasRows-more IsRefusalRow _ _
    (view c.address-item.result) c.args.out.now c.loop-address.out c.show_refusal.new.out
    c.loop-address.invariant c.in_ok-show_refusal.ensures.shown
    (map_take_more view c.args.refused.now c.loop-address.address-index c.address-item.result c.loop-address-test.true
    c.address-item.is)
