-- Visitors are looked at one after another, at the desk of a round.
use Rattle.std.specs.Prelude.{◌≡◌, ◌⊎◌, ℕ, List, [], ◌∷◌, ◌++◌, slice_index_or}
use Rattle.std.specs.List.{remove}
use Rattle.http_server.specs.Exchange.{Call, Chain}
use Rattle.njh_console.specs.Desks.{DeskState, IsServed}
use Rattle.njh_console.specs.Seats.{answered_at, ArePassed, IsTurn, Seat}

-- until one was answered at this moment, if one could be
abbrev pub AreLookedAt : {V : Type 0} → ℕ → DeskState → DeskState → List (Seat V) → List (Seat V) → Type 0
AreLookedAt now old new before after =
    (ArePassed before after × (new ≡ old))
    ⊎ ((call : Call) × (others : List Call) × IsTurn now before after (call ∷ others)
    × Chain IsServed old (call ∷ others) new)

-- Who stood at a place was answered at this moment, and stands behind all the others.
pub record IsMoved {V : Type 0} (place now : ℕ) (before after : List (Seat V)) : Type 0 where
  pub one : Seat V
  pub one_is : (d : Seat V) → slice_index_or before place d ≡ one
  pub after_is : after ≡ remove before place ++ answered_at now one ∷ []
