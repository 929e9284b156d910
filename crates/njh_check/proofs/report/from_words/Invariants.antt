use Rattle.std.proofs.Common.{◌≡◌, ◌++◌, take, codes, string_bytes}
use Rattle.std.specs.List.{flat_map}
use Rattle.njh_check.specs.Reports.{range_words}
use Rattle.njh_check.proofs.report.from_words.Given as goal

abbrev pub invariant-loop-range : goal.invariant-loop-range
invariant-loop-range l =
    string_bytes l.words ≡ codes ", from" ++ flat_map range_words (take l.range-index l.ranges)
