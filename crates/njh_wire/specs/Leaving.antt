-- What a wire of a line over TCP/IP does beside reading and writing (NJE over TCP/IP): it has its peer told what the line
-- doesn't write, and lets go whose connection was ended from here.
use Rattle.std.specs.Prelude.{◌≡◌, ℕ, ◌+◌, ◌<◌, ◌≤◌, ◌⊎◌, min, Bool, true, IsTrue, List, [], length, take, drop}
use Rattle.std.specs.Prelude.{Option, Some, None}
use Rattle.njh_table.specs.declared.Protocol.TheVariants.{Bisync, Tcp}
use Rattle.njh_wire.specs.declared.connection.Saying.{Saying}
use Rattle.njh_wire.specs.declared.end.ConnectionEnd.TheVariants as ends
use Rattle.njh_wire.specs.declared.end.Parting.TheVariants.{Failed}
use Rattle.njh_wire.specs.declared.end.Stop.{Stop}
use Rattle.njh_wire.specs.declared.end.Stop.TheVariants as why
use Rattle.njh_wire.specs.Standing.{Standing, nobody_leaves, without_connection}

-- ---- what the line doesn't write

-- Who is connected was told to say this, or said nothing where that isn't of use, and then sent on what it had to send.
-- The line was given nothing, and nothing of it was taken.
pub record Says {C : Type 0} (moved : C → C → List ℕ → List ℕ → Type 0) (said : C → C → Saying → Type 0)
    (saying : Saying) (s new : Standing C) : Type 0 where
  pub before : C
  pub middle : C
  pub after : C
  pub connected : s.connection ≡ Some before
  pub says : (middle ≡ before) ⊎ said before middle saying
  pub moves : moved middle after [] []
  pub stands : new ≡ record s { connection = Some after; sent = s.clock }

-- It was said so, or the connection failed at it and the next read is to tell, or nobody is connected.
abbrev pub IsSaid : {C : Type 0} → (C → C → List ℕ → List ℕ → Type 0) → (C → C → Saying → Type 0) → Saying →
    Standing C → Standing C → Type 0
IsSaid moved said saying s new = Says moved said saying s new
    ⊎ ((new ≡ without_connection Failed ends.Failed s) ⊎ ((s.connection ≡ None) × (new ≡ s)))

-- for how long nothing was sent when a keep-alive is to be said
abbrev pub alive_time : ℕ
alive_time = 60000

-- when a keep-alive is to be said on a wire: never on a bisync line, or where nobody is connected
abbrev pub alive_at : {C : Type 0} → Standing C → ℕ
alive_at s = elim (s.protocol) [
  | Bisync ↦ 18446744073709551615
  | Tcp ↦ elim (s.connection) [
    | None ↦ 18446744073709551615
    | Some c ↦ min (s.sent + alive_time) 18446744073709551615
  ]
]

-- ---- who leaves

-- nothing more is to be had of a connection
abbrev pub IsOver : Stop → Type 0
IsOver why.Full = ⊥
IsOver why.Dry = ⊥
IsOver why.Paused = ⊥
IsOver why.Ended = Unit {0}
IsOver why.Failed = Unit {0}
IsOver (why.Refused fault) = Unit {0}

-- it still leaves: the rest of what waits for it waits on, and no more is sent once none does
pub record StillLeaves {C : Type 0} (after : C) (count : ℕ) (s new : Standing C) : Type 0 where
  pub stands : new ≡ record s {
    leave = record s.leave { who = Some after; rest = drop count s.leave.rest; shut = new.leave.shut };
  }
  pub early : s.clock < s.leave.until
  pub shut : IsTrue new.leave.shut → (IsTrue s.leave.shut ⊎ (drop count s.leave.rest ≡ []))

-- it is gone: its time is over, or its connection said that nothing more comes
pub record IsGone {C : Type 0} (stops : C → Stop → Type 0) (after : C) (s new : Standing C) : Type 0 where
  pub stands : new ≡ record s { leave = nobody_leaves }
  pub over : (s.leave.until ≤ s.clock) ⊎ ((stop : Stop) × (IsOver stop × stops after stop))

-- Who leaves is let go on: so many bytes at the front of what waits for it go out, and no others; what comes of it is
-- dropped, and nothing of that is answered.
pub record Leaves {C : Type 0} (moved : C → C → List ℕ → List ℕ → Type 0) (stops : C → Stop → Type 0)
    (s new : Standing C) : Type 0 where
  pub before : C
  pub after : C
  pub came : List ℕ
  pub count : ℕ
  pub leaves : s.leave.who ≡ Some before
  pub within : count ≤ length s.leave.rest
  pub moves : moved before after came (take count s.leave.rest)
  pub goes : StillLeaves after count s new ⊎ IsGone stops after s new

-- when who leaves is to be let go on, though nothing tells it: every ten milliseconds, and once its time is over
abbrev pub leaves_at : {C : Type 0} → Standing C → ℕ
leaves_at s = elim (s.leave.who) [
  | None ↦ 18446744073709551615
  | Some c ↦ min (min (s.clock + 10) 18446744073709551615) s.leave.until
]
