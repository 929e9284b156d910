use Rattle.std.proofs.Common.{map, take}
use Rattle.serde_json.specs.View.{view}
use Rattle.njh_ctl.proofs.RowLaws.{HasRows}
use Rattle.njh_ctl.specs.ShownMessages.{IsMessageRow}
use Rattle.njh_ctl.proofs.shown_messages.show_each_message.Given as goal

abbrev pub invariant-loop-message : goal.invariant-loop-message
invariant-loop-message l =
    HasRows (IsMessageRow l.customer l.name) (map view (take l.message-index l.messages)) l.fn.out l.out
