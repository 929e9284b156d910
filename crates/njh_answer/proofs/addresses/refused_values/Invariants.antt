use Rattle.std.proofs.Common.{◌≡◌, map, take}
use Rattle.serde_json.specs.View.{view}
use Rattle.njh_answer.specs.Addresses.{refused_data}
use Rattle.njh_answer.proofs.addresses.refused_values.Given as goal

abbrev pub invariant-loop-address : goal.invariant-loop-address
invariant-loop-address l = map view l.values.items ≡ map refused_data (take l.address-index l.refused)
