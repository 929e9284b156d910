use Rattle.std.proofs.Common.{◌≡◌, ℕ, List, map, take}
use Rattle.njh_spoolfile.specs.Kept.{Record, record_shown, as_stands, contents_of}
use Rattle.njh_spoolfile.proofs.reads.rows_in.Given as goal

abbrev pub invariant-loop-row : goal.invariant-loop-row
invariant-loop-row l = (records : List (ℕ × Record)) → l.rows ≡ map record_shown records
    → map contents_of l.stored.items ≡ map as_stands (take l.row-index records)
