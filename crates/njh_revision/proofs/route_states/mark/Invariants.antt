use Rattle.std.proofs.Common.{◌≡◌, ℕ, ◌<◌, Some, slice_get}
use Rattle.njh_revision.specs.Revisions.{HasRoutesOf}
use Rattle.njh_revision.specs.declared.route_states.RouteState.TheVariants.{Has}
use Rattle.njh_revision.proofs.route_states.mark.Given as goal

-- one that has its routes had them before, and those that were looked at have the same in the new tables
abbrev pub invariant-loop-place : goal.invariant-loop-place
invariant-loop-place l = (p : ℕ) → slice_get l.route_states p ≡ Some Has
    → (slice_get l.initial.route_states p ≡ Some Has) × (p < l.place → HasRoutesOf p l.known.last l.tables)
