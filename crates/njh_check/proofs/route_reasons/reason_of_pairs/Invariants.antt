use Rattle.std.proofs.Common.{◌≡◌}
use Rattle.njh_replay.specs.FirstParts.{parts_behind, length_behind}
use Rattle.njh_check.specs.ScriptReasons.{reason_of_pairs}
use Rattle.njh_check.proofs.route_reasons.reason_of_pairs.Given as goal

abbrev pub invariant-loop-left : goal.invariant-loop-left
invariant-loop-left l = reason_of_pairs l.tables (parts_behind 32 l.pairs) ≡ reason_of_pairs l.tables
    (parts_behind 32 l.left)

abbrev pub decreases-loop-left : goal.decreases-loop-left
decreases-loop-left l = length_behind l.left
