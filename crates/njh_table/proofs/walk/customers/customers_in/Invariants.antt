use Rattle.std.proofs.Common.{◌≡◌, ◌≤◌, [], drop, vec_len}
use Rattle.toml.specs.View.{items_view}
use Rattle.njh_table.specs.TableFile.{owners_from}
use Rattle.njh_table.specs.Walk.{customers_onto}
use Rattle.njh_table.proofs.walk.customers.customers_in.Given as goal

abbrev pub invariant-loop-value : goal.invariant-loop-value
invariant-loop-value l =
    (customers_onto l.customers.items (items_view (drop l.value-index l.values)) ≡ customers_onto []
    (items_view l.values))
    × (l.owners ≡ owners_from 0 l.customers.items) × (vec_len l.customers ≤ 64)
