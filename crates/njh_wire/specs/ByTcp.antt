-- What a wire of a line over TCP/IP does otherwise than that of a bisync line (NJE over TCP/IP). A connection that stands
-- is sure to bring what was sent, and an end that doesn't read while it sends may meet another that doesn't: so the wire
-- is read while bytes wait too, and gives up only a peer that takes nothing for long. Where its peer says nothing the
-- connection may answer in its place.
use Rattle.std.specs.Prelude.{◌≡◌, ◌≢◌, ℕ, ◌+◌, ◌-◌, ◌==◌, ◌<◌, ◌≤◌, ◌⊎◌, if◌then◌else◌, Bool, true, List, [], length}
use Rattle.std.specs.Prelude.{take, drop, nat_lt, Option, Some, None, IsSome, Result, Ok, Err}
use Rattle.njh_bisync.specs.Limits.{longest_frame}
use Rattle.njh_turns.specs.declared.wire_reading.Reading.{Reading}
use Rattle.njh_turns.specs.declared.wire_reading.Reading.TheVariants as reading
use Rattle.njh_turns.specs.declared.wire_reading.WireFault.{WireFault}
use Rattle.njh_wire.specs.declared.end.ConnectionEnd.TheVariants as ends
use Rattle.njh_wire.specs.declared.end.Parting.TheVariants.{Failed}
use Rattle.njh_wire.specs.declared.end.Stop.{Stop}
use Rattle.njh_wire.specs.Standing.{Standing, given_up, hearing, plus_bytes, without_connection}
use Rattle.njh_wire.specs.Readings.{GivesNone, IsOpen, IsRead, Receives, Sends}

-- for how many milliseconds nothing may go out of what waits
abbrev pub tcp_stall : ℕ
tcp_stall = 30000

-- the longest frame has room besides what waits
abbrev pub HasRoom : {C : Type 0} → Standing C → Type 0
HasRoom s = length s.waiting + longest_frame ≤ 65536

-- What it answers at a read while bytes wait to go out, prompted or not: while the longest frame has room besides, what
-- the connection gave; and no quiet. After thirty seconds in which nothing went out it gives the connection up.
abbrev pub IsWaitByTcp : {C : Type 0} → (C → C → List ℕ → List ℕ → Type 0) → (C → Stop → Type 0) → Standing C →
    Result Reading WireFault → List ℕ → Standing C → Type 0
IsWaitByTcp {C = C} moved stops s (Ok (reading.Bytes n)) buffer new =
    (s.clock - s.since < tcp_stall) × HasRoom s × IsOpen s × ((middle : Standing C)
    × Receives moved stops s (take n buffer) middle × (new ≡ hearing (take n buffer) middle))
IsWaitByTcp moved stops s (Ok reading.Pending) buffer new =
    (s.clock - s.since < tcp_stall) × (HasRoom s → GivesNone moved stops s new) × (¬ HasRoom s → new ≡ s)
IsWaitByTcp moved stops s (Err fault) buffer new =
    (tcp_stall ≤ s.clock - s.since) × (new ≡ given_up ends.Stalled s)
IsWaitByTcp moved stops s (Ok reading.Quiet) buffer new = ⊥
IsWaitByTcp moved stops s (Ok reading.Prompted) buffer new = ⊥
IsWaitByTcp moved stops s (Ok reading.Closed) buffer new = ⊥
IsWaitByTcp moved stops s (Ok reading.Absent) buffer new = ⊥

-- The connection answered in the place of its peer, which said nothing. These bytes count, and nothing was heard.
pub record IsAnsweredFor {C : Type 0} (moved : C → C → List ℕ → List ℕ → Type 0) (stops : C → Stop → Type 0)
    (s : Standing C) (result : Result Reading WireFault) (buffer : List ℕ) (new : Standing C) : Type 0 where
  pub count : ℕ
  pub answers : result ≡ Ok (reading.Bytes count)
  pub middle : Standing C
  pub silent : GivesNone moved stops s middle
  pub goes_on : middle.parting ≡ None
  pub before : C
  pub after : C
  pub connected : middle.connection ≡ Some before
  pub moves : moved before after (take count buffer) []
  pub stands : new ≡ record middle { connection = Some after; came = plus_bytes middle.came (take count buffer) }

-- What it answers at a read while nothing waits: what a bisync line's wire does, or else the connection's own answer.
abbrev pub IsReadByTcp : {C : Type 0} → (C → C → List ℕ → List ℕ → Type 0) → (C → Stop → Type 0) → Standing C → Bool →
    Result Reading WireFault → List ℕ → Standing C → Type 0
IsReadByTcp moved stops s prompted result buffer new =
    IsRead moved stops s prompted result buffer new ⊎ IsAnsweredFor moved stops s result buffer new

-- So many bytes went out, and if any did, now. Of no more than an ACK0 has, as which a line answers where it has nothing
-- to say, the peer may have heard nothing. Once nothing waits the connection may have an answer of its own to read.
abbrev pub sent_by_tcp : {C : Type 0} → ℕ → Standing C → Standing C
sent_by_tcp count s = record s {
  since = if count == 0 then s.since else s.clock;
  sent = if nat_lt 2 count then s.clock else s.sent;
  readable = if length s.waiting == 0 then true else s.readable;
}

-- Bytes that waited were put out as far as they go now, and the rest still waits.
pub record IsSentOnByTcp {C : Type 0} (moved : C → C → List ℕ → List ℕ → Type 0) (s new : Standing C) : Type 0 where
  pub count : ℕ
  pub within : count ≤ length s.waiting
  pub sends : Sends moved s.connection (take count s.waiting) new.connection
  pub stands : new ≡ sent_by_tcp count (record s { connection = new.connection; waiting = drop count s.waiting })

-- Bytes that waited were sent on, or the connection failed and the next read is to tell.
abbrev pub IsFlushedByTcp : {C : Type 0} → (C → C → List ℕ → List ℕ → Type 0) → Standing C → Standing C → Type 0
IsFlushedByTcp moved s new = IsSentOnByTcp moved s new ⊎ (new ≡ without_connection Failed ends.Failed s)

-- The next read is to be made now: an end is to be told, once nothing waits; or something may be there to read, and the
-- longest frame has room.
abbrev pub IsReadyByTcp : {C : Type 0} → Standing C → Type 0
IsReadyByTcp s = ((s.waiting ≡ []) × IsSome s.parting) ⊎ (HasRoom s × IsOpen s)
