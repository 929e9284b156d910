use Rattle.serde_json.specs.View.{view}
use Rattle.njh_ctl.proofs.RowLaws.{HasRows-more, HasRows-none, map_take_more}
use Rattle.njh_ctl.specs.Shown.{IsReply}
use Rattle.njh_ctl.proofs.shown.show_each_reply.Goals as goal

pub loop-reply-init : goal.loop-reply-init
loop-reply-init c = HasRows-none IsReply c.args.out.now

pub loop-reply-preserved : goal.loop-reply-preserved
loop-reply-preserved c =
    HasRows-more IsReply _ _
    (view c.reply-item.result) c.args.out.now c.loop-reply.out c.show_reply.new.out
    c.loop-reply.invariant c.in_ok-show_reply.ensures.shown
    (map_take_more view c.args.replies.now c.loop-reply.reply-index c.reply-item.result c.loop-reply-test.true
    c.reply-item.is)
