use Rattle.std.proofs.Common.{map, take}
use Rattle.std.specs.Prelude.{string_bytes}
use Rattle.serde_json.specs.View.{view}
use Rattle.njh_ctl.specs.Asked.{AddsEach, IsName}
use Rattle.njh_ctl.proofs.names.add_names.Given as goal

abbrev pub invariant-loop-customer : goal.invariant-loop-customer
invariant-loop-customer l =
    AddsEach IsName (map view (take l.customer-index l.customers)) (map string_bytes l.fn.names.items)
    (map string_bytes l.names.items)
