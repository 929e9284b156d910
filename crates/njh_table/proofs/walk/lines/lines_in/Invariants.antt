use Rattle.std.proofs.Common.{◌≡◌, [], ◌++◌, drop}
use Rattle.toml.specs.View.{items_view}
use Rattle.njh_table.specs.TableFile.{names_in, line_owners}
use Rattle.njh_table.specs.Walk.{lines_onto}
use Rattle.njh_table.proofs.walk.lines.lines_in.Given as goal

abbrev pub invariant-loop-value : goal.invariant-loop-value
invariant-loop-value l =
    (lines_onto l.customer (names_in l.initial.owners) l.lines.items (items_view (drop l.value-index l.values))
    ≡ lines_onto l.customer (names_in l.initial.owners) [] (items_view l.values))
    × (l.owners ≡ l.initial.owners ++ line_owners l.customer 0 l.lines.items)
