-- What a wire of a line answers, and how it stands then.
use Rattle.std.specs.Prelude.{◌≡◌, ◌≢◌, ℕ, ◌-◌, ◌<◌, ◌≤◌, ◌⊎◌, Bool, IsTrue, List, [], ◌++◌, length, take}
use Rattle.std.specs.Prelude.{Option, Some, None, IsSome, Result, Ok, Err}
use Rattle.njh_turns.specs.declared.wire_reading.Reading.{Reading}
use Rattle.njh_turns.specs.declared.wire_reading.Reading.TheVariants as reading
use Rattle.njh_turns.specs.declared.wire_reading.WireFault.{WireFault}
use Rattle.njh_wire.specs.declared.end.ConnectionEnd.TheVariants as ends
use Rattle.njh_wire.specs.declared.end.Parting.TheVariants.{Closed, Failed}
use Rattle.njh_wire.specs.declared.end.Stop.{Stop}
use Rattle.njh_wire.specs.declared.end.Stop.TheVariants as why
use Rattle.njh_wire.specs.Standing.{Standing, due, with_connection, without_connection, with_failure, given_up}
use Rattle.njh_wire.specs.Standing.{keeping, after_stop, hearing}

-- Nothing came. A wire that is prompted says so. On another that is a quiet only when it is due. The next quiet is
-- measured from a prompt or a quiet on.
abbrev pub IsSilence : {C : Type 0} → Standing C → Bool → Reading → Standing C → Type 0
IsSilence s prompted (reading.Bytes n) new = ⊥
IsSilence s prompted reading.Quiet new =
    IsSome s.connection × ¬ IsTrue prompted × (due s ≤ s.clock) × (new ≡ record s { begun = s.clock })
IsSilence s prompted reading.Pending new = IsSome s.connection × ¬ IsTrue prompted × (s.clock < due s) × (new ≡ s)
IsSilence s prompted reading.Prompted new =
    IsSome s.connection × IsTrue prompted × (new ≡ record s { begun = s.clock })
IsSilence s prompted reading.Closed new = ⊥
IsSilence s prompted reading.Absent new = (s.connection ≡ None) × (new ≡ s)

-- What a wire answers that gives no bytes: the end of a connection once, and silence where there is none to tell.
abbrev pub IsAnswer : {C : Type 0} → Standing C → Bool → Result Reading WireFault → Standing C → Type 0
IsAnswer s prompted (Ok reading.Closed) new = (s.parting ≡ Some Closed) × (new ≡ with_connection s.next s)
IsAnswer s prompted (Err fault) new = (s.parting ≡ Some Failed) × (new ≡ with_connection s.next (with_failure s))
IsAnswer s prompted (Ok (reading.Bytes n)) new = ⊥
IsAnswer s prompted (Ok reading.Quiet) new = (s.parting ≡ None) × IsSilence s prompted reading.Quiet new
IsAnswer s prompted (Ok reading.Pending) new = (s.parting ≡ None) × IsSilence s prompted reading.Pending new
IsAnswer s prompted (Ok reading.Prompted) new = (s.parting ≡ None) × IsSilence s prompted reading.Prompted new
IsAnswer s prompted (Ok reading.Absent) new = (s.parting ≡ None) × IsSilence s prompted reading.Absent new

-- something may be there to read, and no end is to be told
abbrev pub IsOpen : {C : Type 0} → Standing C → Type 0
IsOpen s = IsSome s.connection × IsTrue s.readable × (s.parting ≡ None)

-- The connection gave these bytes and no others, put none out, and then said why no more come, unless there was no more
-- room for any.
pub record Receives {C : Type 0} (moved : C → C → List ℕ → List ℕ → Type 0) (stops : C → Stop → Type 0) (s : Standing C)
    (bytes : List ℕ) (new : Standing C) : Type 0 where
  pub before : C
  pub after : C
  pub stop : Stop
  pub connected : s.connection ≡ Some before
  pub moves : moved before after bytes []
  pub dry : length bytes ≡ 0 → stop ≢ why.Full
  pub says : stop ≢ why.Full → stops after stop
  pub stands : new ≡ after_stop stop (record s { connection = Some after })

-- No bytes came: the connection gave none, or wasn't read.
pub record GivesNone {C : Type 0} (moved : C → C → List ℕ → List ℕ → Type 0) (stops : C → Stop → Type 0)
    (s new : Standing C) : Type 0 where
  pub received : IsOpen s → Receives moved stops s [] new
  pub shut : ¬ IsOpen s → new ≡ s

-- What a wire answers at a read while bytes wait to go out, prompted or not: it waits for a second, and then gives the
-- connection up.
abbrev pub IsWait : {C : Type 0} → Standing C → Result Reading WireFault → Standing C → Type 0
IsWait s (Ok reading.Pending) new = (s.clock - s.since < 1000) × (new ≡ s)
IsWait s (Err fault) new = (1000 ≤ s.clock - s.since) × (new ≡ given_up ends.Stalled s)
IsWait s (Ok (reading.Bytes n)) new = ⊥
IsWait s (Ok reading.Quiet) new = ⊥
IsWait s (Ok reading.Prompted) new = ⊥
IsWait s (Ok reading.Closed) new = ⊥
IsWait s (Ok reading.Absent) new = ⊥

-- What a wire answers at a read while nothing waits: the bytes that the connection gave, also where it was prompted, or
-- what `IsAnswer` says where it gave none.
abbrev pub IsRead : {C : Type 0} → (C → C → List ℕ → List ℕ → Type 0) → (C → Stop → Type 0) → Standing C → Bool →
    Result Reading WireFault → List ℕ → Standing C → Type 0
IsRead {C = C} moved stops s prompted (Ok (reading.Bytes n)) buffer new =
    IsOpen s × ((middle : Standing C) × Receives moved stops s (take n buffer) middle ×
    (new ≡ hearing (take n buffer) middle))
IsRead {C = C} moved stops s prompted (Ok reading.Quiet) buffer new =
    (middle : Standing C) × GivesNone moved stops s middle × IsAnswer middle prompted (Ok reading.Quiet) new
IsRead {C = C} moved stops s prompted (Ok reading.Pending) buffer new =
    (middle : Standing C) × GivesNone moved stops s middle × IsAnswer middle prompted (Ok reading.Pending) new
IsRead {C = C} moved stops s prompted (Ok reading.Prompted) buffer new =
    (middle : Standing C) × GivesNone moved stops s middle × IsAnswer middle prompted (Ok reading.Prompted) new
IsRead {C = C} moved stops s prompted (Ok reading.Closed) buffer new =
    (middle : Standing C) × GivesNone moved stops s middle × IsAnswer middle prompted (Ok reading.Closed) new
IsRead {C = C} moved stops s prompted (Ok reading.Absent) buffer new =
    (middle : Standing C) × GivesNone moved stops s middle × IsAnswer middle prompted (Ok reading.Absent) new
IsRead {C = C} moved stops s prompted (Err fault) buffer new =
    (middle : Standing C) × GivesNone moved stops s middle × IsAnswer middle prompted (Err fault) new

-- A connection put out these bytes and no others, and gave none.
pub record Sends {C : Type 0} (moved : C → C → List ℕ → List ℕ → Type 0) (connection : Option C) (bytes : List ℕ)
    (new : Option C) : Type 0 where
  pub before : C
  pub after : C
  pub connected : connection ≡ Some before
  pub moves : moved before after [] bytes
  pub stands : new ≡ Some after

-- A frame was written: somebody is connected, and it waits behind what waited.
abbrev pub IsWritten : {C : Type 0} → Standing C → List ℕ → Standing C → Type 0
IsWritten s frame new = IsSome s.connection × (new ≡ keeping frame s)

-- Bytes that waited were put out as far as they go now, and the rest still waits.
pub record IsSentOn {C : Type 0} (moved : C → C → List ℕ → List ℕ → Type 0) (s new : Standing C) : Type 0 where
  pub went : List ℕ
  pub whole : s.waiting ≡ went ++ new.waiting
  pub sends : Sends moved s.connection went new.connection
  pub stands : new ≡ record s { connection = new.connection; waiting = new.waiting }

-- Bytes that waited were sent on, or the connection failed and the next read is to tell.
abbrev pub IsFlushed : {C : Type 0} → (C → C → List ℕ → List ℕ → Type 0) → Standing C → Standing C → Type 0
IsFlushed moved s new = IsSentOn moved s new ⊎ (new ≡ without_connection Failed ends.Failed s)
