use Rattle.std.specs.Prelude.{◌≢◌, ℕ, ◌<◌, ◌≤◌, Some, slice_get}
use Rattle.njh_revision.specs.declared.route_states.RouteState.TheVariants.{Waits}
use Rattle.njh_revision.proofs.route_states.first_waiting.Given as goal

-- none of those before this place waits
abbrev pub invariant-loop-place : goal.invariant-loop-place
invariant-loop-place l = (p : ℕ) → l.from ≤ p → p < l.place → slice_get l.route_states p ≢ Some Waits
