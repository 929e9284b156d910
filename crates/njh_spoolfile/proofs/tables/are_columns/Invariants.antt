use Rattle.std.proofs.Common.{◌≡◌, map, take, length}
use Rattle.njh_spoolfile.specs.Tables.{value_column}
use Rattle.njh_spoolfile.proofs.tables.are_columns.Given as goal

abbrev pub invariant-loop-at : goal.invariant-loop-at
invariant-loop-at l = (length l.columns ≡ length l.wanted)
    × (take l.at l.columns ≡ map (λ w. value_column w.0.now w.1) (take l.at l.wanted))
