-- Which customers have the routes of the tables that were last taken, and who is given its own next.
use Rattle.std.specs.Prelude.{◌≡◌, ◌≢◌, ◌<◌, ◌≤◌, ℕ, Bool, true, false, List, Option, Some, None, slice_get}
use Rattle.std.specs.Prelude.{⊤}
use Rattle.njh_table.specs.TableFile.{TableFile}
use Rattle.njh_revision.specs.Revisions.{HasRoutesOf}
use Rattle.njh_revision.specs.declared.route_states.RouteState.{RouteState}
use Rattle.njh_revision.specs.declared.route_states.RouteState.TheVariants.{Has, Waits, Lacks, Apart}
use Rattle.njh_revision.specs.declared.outcome.SourceOutcome.{SourceOutcome}
use Rattle.njh_revision.specs.declared.outcome.SourceOutcome.TheVariants as outcomes

-- the first from a place on that waits
abbrev pub IsFirstWaiting : List RouteState → (from : ℕ) → Option ℕ → Type 0
IsFirstWaiting states from (Some place) = (from ≤ place) × ((slice_get states place ≡ Some Waits) ×
    ((p : ℕ) → from ≤ p → p < place → slice_get states p ≢ Some Waits))
IsFirstWaiting states from None = (p : ℕ) → from ≤ p → slice_get states p ≢ Some Waits

-- a customer waits for new routes if these differ from its own, or it hasn't got its own; one whose entry differs in
-- more waits for nothing
abbrev pub state_after : RouteState → (apart differs : Bool) → RouteState
state_after state true differs = Apart
state_after Has false false = Has
state_after Has false true = Waits
state_after Waits false differs = Waits
state_after Lacks false differs = Waits
state_after Apart false differs = Waits

-- One that counts as having its routes of new tables had those before, and they are the same.
abbrev pub HaveRoutes : (known tables : TableFile) → (states new_states : List RouteState) → Type 0
HaveRoutes known tables states new_states = (place : ℕ) → slice_get new_states place ≡ Some Has
    → (slice_get states place ≡ Some Has) × HasRoutesOf place known tables

-- once it was given them, or couldn't be
abbrev pub state_given : Bool → RouteState
state_given true = Has
state_given false = Lacks

-- new tables were passed over since more than routes differs, and nobody can be given other ones
abbrev pub IsPassedOver : {F : Type 0} → Option (SourceOutcome F) → Type 0
IsPassedOver None = ⊥
IsPassedOver (Some (outcomes.Refused fault)) = ⊥
IsPassedOver (Some (outcomes.Differs difference tables)) = ⊤
IsPassedOver (Some outcomes.Same) = ⊥
IsPassedOver (Some (outcomes.Taken before)) = ⊥
