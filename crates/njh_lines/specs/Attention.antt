-- How long the attendant waits, and what it looks at then.
use Rattle.std.specs.Prelude.{◌≡◌, ℕ, ◌+◌, ◌-◌, ◌*◌, ◌/◌, ◌<◌, ◌≤◌, ◌⊎◌, Bool, true, false, IsTrue, nat_le, min}
use Rattle.std.specs.Prelude.{if◌then◌else◌, List, length, get_or}
use Rattle.njh_table.specs.declared.Protocol.{Protocol}
use Rattle.njh_table.specs.declared.Protocol.TheVariants.{Bisync, Tcp}
use Rattle.njh_wire.specs.ByTcp.{tcp_stall}
use Rattle.njh_wire.specs.Leaving.{alive_at, leaves_at}
use Rattle.njh_wire.specs.Standing.{Standing}
use Rattle.njh_wire.specs.declared.network.Readiness.{Readiness}
use Rattle.njh_lines.specs.declared.attention.Watch.{Watch}

-- ---- how long it waits

-- the first moment on the grid of five milliseconds that isn't before this one
abbrev pub on_grid : ℕ → ℕ
on_grid moment = 5 * ((moment + 4) / 5)

-- until the moment at which a line wants to be looked at next, a tenth of a second at most, and then on to the grid;
-- not at all if that moment came
abbrev pub wait_of : (now next : ℕ) → ℕ
wait_of now next = if nat_le next now then 0 else on_grid (min next (now + 100)) - now

-- ---- what it looks at

-- something of a line is ready
abbrev pub IsMarked : Readiness → Type 0
IsMarked mark = IsTrue mark.listener ⊎ (IsTrue mark.reads ⊎ IsTrue mark.writes)

abbrev pub nothing : Readiness
nothing = record { listener = false; reads = false; writes = false }

-- what is ready of the line at a place
abbrev pub mark_at : List Readiness → (place : ℕ) → Readiness
mark_at ready place = get_or ready place nothing

-- something is ready of a line from the first of these places on, up to the other
pub record IsAnyMarked (ready : List Readiness) (first end : ℕ) : Type 0 where
  pub place : ℕ
  pub from : first ≤ place
  pub before : place < end
  pub marked : IsMarked (mark_at ready place)

-- something is ready, or the moment at which it wants to be looked at came
abbrev pub IsWanted : (is_ready : Bool) → (moment now : ℕ) → Type 0
IsWanted is_ready moment now = IsTrue is_ready ⊎ (moment ≤ now)

-- a line is looked at if something of it is ready or its moment came
abbrev pub IsDue : Readiness → (moment now : ℕ) → Type 0
IsDue mark moment now = IsMarked mark ⊎ (moment ≤ now)

-- a line that is new is looked at in the first round
abbrev pub at_once : Watch
at_once = record { moment = 0; is_due = true }

-- when the line at a place is looked at
abbrev pub watch_at : List Watch → (place : ℕ) → Watch
watch_at watches place = get_or watches place at_once

-- a line is called: it is looked at at this moment, if not before
abbrev pub called : (now : ℕ) → Watch → Watch
called now watch = record watch { moment = min watch.moment now }

-- Some of these lines were called, and of the others nothing changed.
abbrev pub AreCalled : (now : ℕ) → (watches new_watches : List Watch) → Type 0
AreCalled now watches new_watches = (place : ℕ) → (watch_at new_watches place ≡ watch_at watches place)
    ⊎ (watch_at new_watches place ≡ called now (watch_at watches place))

-- a group is sixteen lines in a row
abbrev pub IsInGroup : (place group : ℕ) → Type 0
IsInGroup place group = (16 * group ≤ place) × (place < 16 * group + 16)

-- a line is looked at, from the first of these places on, up to the other
pub record IsAnyDue (watches : List Watch) (first end : ℕ) : Type 0 where
  pub place : ℕ
  pub from : first ≤ place
  pub before : place < end
  pub within : place < length watches
  pub due : IsTrue (watch_at watches place).is_due

-- When the first of these lines wants to be looked at: none of them wants that before, and one wants it then, unless
-- none wants it ever.
pub record IsFirstMoment (watches : List Watch) (first end moment : ℕ) : Type 0 where
  pub least : (place : ℕ) → first ≤ place → place < end → place < length watches
      → moment ≤ (watch_at watches place).moment
  pub wanted : (moment ≡ 18446744073709551615) ⊎ ((place : ℕ) × (first ≤ place) × (place < end)
      × ((watch_at watches place).moment ≡ moment))

-- One of the lines at these places wants to be looked at at this moment, unless none wants it ever.
abbrev pub IsMomentOf : (among : ℕ → Type 0) → List Watch → (moment : ℕ) → Type 0
IsMomentOf among watches moment = (moment ≡ 18446744073709551615)
    ⊎ ((place : ℕ) × (among place) × ((watch_at watches place).moment ≡ moment))

-- ---- when it looks again

-- the first of three moments
abbrev pub first_of : ℕ → ℕ → ℕ → ℕ
first_of a b c = min (min a b) c

-- at a line on which bytes wait to go out: a tenth of a second later, and when its wire gives up
abbrev pub again_at : (now : ℕ) → ℕ
again_at now = min (now + 100) 18446744073709551615

-- a wire gives up when they will have waited for a second; on a line over TCP/IP when none went out for thirty
abbrev pub patience : Protocol → ℕ
patience Bisync = 1000
patience Tcp = tcp_stall

abbrev pub stalled_at : {C : Type 0} → Standing C → ℕ
stalled_at wire = min (wire.since + patience wire.protocol) 18446744073709551615

-- at a wire, for what is beside its line: who leaves, and what the hub says to a peer
abbrev pub beside_at : {C : Type 0} → Standing C → ℕ
beside_at wire = min (alive_at wire) (leaves_at wire)
