use Rattle.{std.proofs.Common.{◌≡◌, drop, map}, njh_spoolfile.specs.Kept.contents_of}
use Rattle.njh_keeper.specs.Opened.{are_records_from}
use Rattle.njh_keeper.proofs.records.are_records.Given as goal

-- what is left decides
abbrev pub invariant-loop-place : goal.invariant-loop-place
invariant-loop-place l = are_records_from l.place (map contents_of (drop l.place l.records)) ≡ are_records_from 0
    (map contents_of l.records)
