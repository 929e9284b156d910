use Rattle.std.proofs.Common.{◌≡◌, drop, length}
use Rattle.toml.specs.View.{items_view}
use Rattle.njh_table.specs.Keys.{ranges_in}
use Rattle.njh_table.proofs.RangeLaws.{ranges_after}
use Rattle.njh_table.proofs.range_text.ranges_in.Given as goal

abbrev pub invariant-loop-value : goal.invariant-loop-value
invariant-loop-value l =
    (ranges_after l.ranges.items (items_view (drop l.value-index l.values)) ≡ ranges_in (items_view l.values))
    × (length l.ranges.items ≡ l.value-index)
