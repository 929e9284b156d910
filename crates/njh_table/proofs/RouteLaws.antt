-- The lines that lead to a node, one route after the other.
use Rattle.std.proofs.Common.{◌≡◌, ℕ, Bool, true, false, cond, List, ◌∷◌, Some, option_map, bytes_eq, refl}
use Rattle.std.specs.List.{find}
use Rattle.njh_table.specs.Entries.{RouteEntry, lines_to, route_lines}

pub lines_to-cons : (r : RouteEntry) (routes : List RouteEntry) (node : List ℕ)
    → lines_to (r ∷ routes) node ≡ cond (bytes_eq r.node node) (Some (route_lines r)) (lines_to routes node)
lines_to-cons r routes node = by (bytes_eq r.node node)
  where
    by : (same : Bool) → option_map route_lines (cond same (Some r) (find (λ r. bytes_eq r.node node) routes))
        ≡ cond same (Some (route_lines r)) (lines_to routes node)
    by true = refl
    by false = refl
