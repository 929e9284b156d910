use Rattle.std.proofs.Common.{◌≡◌, map, take}
use Rattle.serde_json.specs.View.{view}
use Rattle.njh_answer.specs.Orders.{reply_data}
use Rattle.njh_answer.proofs.orders.reply_values.Given as goal

abbrev pub invariant-loop-reply : goal.invariant-loop-reply
invariant-loop-reply l = map view l.values.items ≡ map reply_data (take l.reply-index l.replies)
