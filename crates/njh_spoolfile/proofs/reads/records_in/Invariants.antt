use Rattle.std.proofs.Common.{◌≡◌, ℕ, List, map, take}
use Rattle.njh_spoolfile.specs.Kept.{Record, record_shown, contents_in, contents_of}
use Rattle.njh_spoolfile.proofs.reads.records_in.Given as goal

abbrev pub invariant-loop-row : goal.invariant-loop-row
invariant-loop-row l = (records : List (ℕ × Record)) → l.rows ≡ map record_shown records
    → map contents_of l.stored.items ≡ contents_in (take l.row-index records)
