use Rattle.std.proofs.Common.{◌≡◌, map, take}
use Rattle.serde_json.specs.View.{view}
use Rattle.njh_hub.specs.WholeHub.{part}
use Rattle.njh_answer.specs.Lines.{receiver_data}
use Rattle.njh_answer.proofs.lines.receiver_values.Given as goal

abbrev pub invariant-loop-receiver : goal.invariant-loop-receiver
invariant-loop-receiver l =
    map view l.values.items
    ≡ map (receiver_data (part l.customer l.hub).customer.spool) (take l.receiver-index l.receivers)
