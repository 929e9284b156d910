use Rattle.std.proofs.Common.{◌≡◌, ◌++◌}
use Rattle.std.specs.Option.{option_map}
use Rattle.njh_replay.specs.FirstParts.{parts_behind, length_behind}
use Rattle.njh_replay.specs.ScriptRoutes.{routes_of_pairs}
use Rattle.njh_replay.proofs.script_routes.routes_of_pairs.Given as goal

abbrev pub invariant-loop-left : goal.invariant-loop-left
invariant-loop-left l =
    routes_of_pairs l.tables (parts_behind 32 l.pairs) ≡ option_map (λ more. l.routes.items ++ more)
    (routes_of_pairs l.tables (parts_behind 32 l.left))

abbrev pub decreases-loop-left : goal.decreases-loop-left
decreases-loop-left l = length_behind l.left
