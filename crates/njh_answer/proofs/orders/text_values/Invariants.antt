use Rattle.std.proofs.Common.{◌≡◌, map, take}
use Rattle.serde_json.specs.View.{view}
use Rattle.njh_answer.specs.Orders.{text_data}
use Rattle.njh_answer.proofs.orders.text_values.Given as goal

abbrev pub invariant-loop-text : goal.invariant-loop-text
invariant-loop-text l = map view l.values.items ≡ map text_data (take l.text-index l.texts)
