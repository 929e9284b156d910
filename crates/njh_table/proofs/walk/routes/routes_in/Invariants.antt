use Rattle.std.proofs.Common.{◌≡◌, [], drop}
use Rattle.toml.specs.View.{items_view}
use Rattle.njh_table.specs.TableFile.{own_line}
use Rattle.njh_table.specs.Walk.{routes_onto}
use Rattle.njh_table.proofs.walk.routes.routes_in.Given as goal

abbrev pub invariant-loop-value : goal.invariant-loop-value
invariant-loop-value l =
    let find = own_line l.owners l.customer in
    routes_onto l.customer l.own.hub find l.routes (items_view (drop l.value-index l.values))
    ≡ routes_onto l.customer l.own.hub
    find [] (items_view l.values)
