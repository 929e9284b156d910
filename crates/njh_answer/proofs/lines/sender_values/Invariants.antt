use Rattle.std.proofs.Common.{◌≡◌, map, take}
use Rattle.serde_json.specs.View.{view}
use Rattle.njh_hub.specs.WholeHub.{part}
use Rattle.njh_answer.specs.Lines.{sender_data}
use Rattle.njh_answer.proofs.lines.sender_values.Given as goal

abbrev pub invariant-loop-sender : goal.invariant-loop-sender
invariant-loop-sender l =
    map view l.values.items
    ≡ map (sender_data (part l.customer l.hub).customer.spool) (take l.sender-index l.senders)
