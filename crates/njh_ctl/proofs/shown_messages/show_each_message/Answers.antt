use Rattle.serde_json.specs.View.{view}
use Rattle.njh_ctl.proofs.RowLaws.{HasRows-more, HasRows-none, map_take_more}
use Rattle.njh_ctl.specs.ShownMessages.{IsMessageRow}
use Rattle.njh_ctl.proofs.shown_messages.show_each_message.Goals as goal

pub loop-message-init : goal.loop-message-init
loop-message-init c = HasRows-none (IsMessageRow c.args.customer.now c.args.name.now) c.args.out.now

pub loop-message-preserved : goal.loop-message-preserved
loop-message-preserved c =
    HasRows-more (IsMessageRow c.args.customer.now c.args.name.now) _ _
    (view c.message-item.result) c.args.out.now c.loop-message.out c.show_message.new.out
    c.loop-message.invariant c.in_ok-show_message.ensures.shown
    (map_take_more view c.args.messages.now c.loop-message.message-index c.message-item.result
    c.loop-message-test.true c.message-item.is)
