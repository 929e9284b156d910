use Rattle.serde_json.specs.View.{view}
use Rattle.njh_ctl.proofs.RowLaws.{HasRows-more, HasRows-none, map_take_more}
use Rattle.njh_ctl.specs.ShownMessages.{AreLineMessages}
use Rattle.njh_ctl.proofs.shown_messages.show_line_messages.Goals as goal

pub loop-line-init : goal.loop-line-init
loop-line-init c = HasRows-none (AreLineMessages c.args.customer.now) c.args.out.now

pub loop-line-preserved : goal.loop-line-preserved
loop-line-preserved c =
    HasRows-more (AreLineMessages c.args.customer.now) _ _
    (view c.line-item.result) c.args.out.now c.loop-line.out c.show_messages.new.out
    c.loop-line.invariant c.in_ok-show_messages.ensures.shown
    (map_take_more view c.args.lines.now c.loop-line.line-index c.line-item.result c.loop-line-test.true
    c.line-item.is)
