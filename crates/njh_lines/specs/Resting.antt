-- What a round leaves: when each line is looked at next, which are woken, and until when the attendant waits.
use Rattle.std.specs.Prelude.{◌≡◌, ℕ, ◌<◌, ◌≤◌, ◌⊎◌, IsTrue, List, [], length, min, Some, None, IsSome, slice_get}
use Rattle.std.specs.Prelude.{slice_index_or}
use Rattle.njh_hub.specs.WholeHub.{Part}
use Rattle.njh_sight.specs.Prompting.{moves_others, soon}
use Rattle.njh_sight.specs.Waking.{is_wanted, look_moment, marked, IsRowMade}
use Rattle.njh_sight.specs.declared.customers.Row.{Row}
use Rattle.njh_sight.specs.declared.traffic.Sight.{Sight}
use Rattle.njh_wire.specs.Standing.{Standing, due}
use Rattle.njh_lines.specs.Attention.{again_at, beside_at, called, first_of, stalled_at, watch_at, IsInGroup}
use Rattle.njh_lines.specs.Attention.{IsMomentOf}
use Rattle.njh_lines.specs.Connecting.{IsReady}
use Rattle.njh_lines.specs.Watching.{IsToBeWoken, Noted, Watched}
use Rattle.njh_lines.specs.declared.attention.Watch.{Watch}

-- ---- a line that was looked at

-- it is looked at no later than something is to be told of it, or done beside it
abbrev pub told_by : {C : Type 0} → Standing C → Noted → (moment : ℕ) → ℕ
told_by wire noted moment = first_of moment noted.tells (beside_at wire)

-- When it is looked at next, by how its wire stands now: something is to be read or told, bytes wait to go out on it, or
-- it is silent; and by what is noted of the line.
pub record IsNextLook {C : Type 0} (wire : Standing C) (noted : Noted) (now moment : ℕ) : Type 0 where
  pub waits : 0 < length wire.waiting → ¬ IsReady wire
      → moment ≡ told_by wire noted (first_of (again_at now) noted.site (stalled_at wire))
  pub ready : IsReady wire → moment ≡ told_by wire noted now
  pub rests : wire.waiting ≡ [] → ¬ IsReady wire → IsSome wire.connection
      → moment ≡ told_by wire noted (first_of (due wire) noted.site (soon noted.traffic now))
  pub alone : wire.waiting ≡ [] → ¬ IsReady wire → wire.connection ≡ None
      → moment ≡ told_by wire noted (first_of 18446744073709551615 noted.site (soon noted.traffic now))

-- The line at a place rests, and is looked at again by this.
pub record HasRested {C : Type 0} (seen : Watched) (place : ℕ) (wire : Standing C) (watch : Watch) : Type 0 where
  pub asks : (noted : Noted) → slice_get seen.noted place ≡ Some noted → IsNextLook wire noted seen.now watch.moment
  pub rests : ¬ IsTrue watch.is_due

-- Nothing changed of when the line at a place is looked at.
pub record IsSameAt (place : ℕ) (old new : Watched) : Type 0 where
  pub noted : slice_get new.noted place ≡ slice_get old.noted place
  pub watch : watch_at new.watches place ≡ watch_at old.watches place
  pub refusals : slice_get new.refusals place ≡ slice_get old.refusals place

-- Of the lines from the first of these places on, up to the other, each that was looked at rests. Of the others nothing
-- changed.
pub record HaveRested {C : Type 0} (first end : ℕ) (old new : Watched) (wires : List (Standing C)) : Type 0 where
  pub each : (place : ℕ) (d : Standing C) → first ≤ place → place < end → place < length wires
      → place < length old.lines → IsTrue (watch_at old.watches place).is_due
      → HasRested new place (slice_index_or wires place d) (watch_at new.watches place)
  pub idle : (place : ℕ) → first ≤ place → place < end → ¬ IsTrue (watch_at old.watches place).is_due
      → IsSameAt place old new
  pub others : (place : ℕ) → (place < first) ⊎ (end ≤ place) → IsSameAt place old new

-- ---- customers that are marked

-- Something came of a turn on a line of this customer's that may give one of its lines something to send, or didn't, as
-- the line was seen before and is now: the customer is marked by that, and no other is.
pub record IsMarkedFor (customer : ℕ) (was now : Sight) (old new : List Row) : Type 0 where
  pub marks : IsTrue (moves_others was now) → IsRowMade customer marked old new
  pub same : ¬ IsTrue (moves_others was now) → new ≡ old

-- ---- lines that are woken

-- A line was called because it is some customer's, rests and has something to send, or its watch is as it was.
abbrev pub AreWoken : Watched → List Part → List Watch → Type 0
AreWoken seen parts new_watches = (place : ℕ) → (watch_at new_watches place ≡ watch_at seen.watches place)
    ⊎ ((customer : ℕ) × (IsToBeWoken seen place customer parts)
    × (watch_at new_watches place ≡ called seen.now (watch_at seen.watches place)))

-- Each of a customer's lines that is to be woken is looked at by now, if they may be.
abbrev pub IsServedBy : Watched → List Part → (customer : ℕ) → List Watch → Type 0
IsServedBy seen parts customer new_watches = (row : Row) (place : ℕ) → slice_get seen.customers customer ≡ Some row
    → IsTrue (is_wanted row seen.now) → row.first ≤ place → place < row.end
    → IsToBeWoken seen place row.customer parts → (watch_at new_watches place).moment ≤ seen.now

-- So it is with the customers of these numbers.
abbrev pub AreServedBy : Watched → List Part → (customers : ℕ) → List Watch → Type 0
AreServedBy seen parts customers new_watches =
    (customer : ℕ) → customer < customers → IsServedBy seen parts customer new_watches

-- ---- until when the attendant waits

-- One of the lines wants to be looked at at this moment, unless none wants it ever.
abbrev pub IsLinesMoment : Watched → ℕ → Type 0
IsLinesMoment seen moment = IsMomentOf (λ place. place < length seen.lines) seen.watches moment

-- One of those of a group.
abbrev pub IsMomentIn : (group : ℕ) → Watched → ℕ → Type 0
IsMomentIn group seen moment =
    IsMomentOf (λ place. IsInGroup place group × (place < length seen.lines)) seen.watches moment

-- The lines of one of the customers are to be looked at at this moment for what came.
abbrev pub IsCustomersMoment : Watched → ℕ → Type 0
IsCustomersMoment seen moment = (customer : ℕ) × ((row : Row)
    × (slice_get seen.customers customer ≡ Some row) × (look_moment row ≡ moment))

-- It waits until the first of these moments: no longer than until one of them, and for nothing else.
pub record WaitsForFirst (seen : Watched) : Type 0 where
  pub lines : (place : ℕ) → place < length seen.lines → seen.next ≤ (watch_at seen.watches place).moment
  pub customers : (customer : ℕ) (row : Row) → slice_get seen.customers customer ≡ Some row
      → seen.next ≤ look_moment row
  pub wanted : IsLinesMoment seen seen.next ⊎ IsCustomersMoment seen seen.next

-- ---- after a round

-- The line at a place, once the round is over: it rested if it was looked at, and else nothing changed; then it was
-- woken, if it is to be.
pub record HasEnded {C : Type 0} (old new : Watched) (parts : List Part) (place : ℕ) (wire : Standing C) : Type 0 where
  pub watch : Watch
  pub looked : IsTrue (watch_at old.watches place).is_due → HasRested new place wire watch
  pub idle : ¬ IsTrue (watch_at old.watches place).is_due → watch ≡ watch_at old.watches place
  pub woken : (watch_at new.watches place ≡ watch) ⊎ ((customer : ℕ) × (IsToBeWoken new place customer parts)
      × (watch_at new.watches place ≡ called new.now watch))

-- So it is with each line that has a wire.
abbrev pub HaveEnded : {C : Type 0} → (old new : Watched) → List Part → List (Standing C) → Type 0
HaveEnded {C} old new parts wires = (place : ℕ) (d : Standing C) → place < length wires → place < length old.lines
    → HasEnded old new parts place (slice_index_or wires place d)
