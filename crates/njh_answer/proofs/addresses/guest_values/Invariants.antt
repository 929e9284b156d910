use Rattle.std.proofs.Common.{◌≡◌, map, take}
use Rattle.serde_json.specs.View.{view}
use Rattle.njh_answer.specs.Addresses.{guest_data}
use Rattle.njh_answer.proofs.addresses.guest_values.Given as goal

abbrev pub invariant-loop-guest : goal.invariant-loop-guest
invariant-loop-guest l = map view l.values.items ≡ map guest_data (take l.guest-index l.waiting)
