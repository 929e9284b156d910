use Rattle.std.proofs.Common.{map, take}
use Rattle.serde_json.specs.View.{view}
use Rattle.njh_ctl.proofs.RowLaws.{HasRows}
use Rattle.njh_ctl.specs.Shown.{IsReply}
use Rattle.njh_ctl.proofs.shown.show_each_reply.Given as goal

abbrev pub invariant-loop-reply : goal.invariant-loop-reply
invariant-loop-reply l = HasRows IsReply (map view (take l.reply-index l.replies)) l.fn.out l.out
