-- How a wire of a line stands, and what leads it from one standing to the next.
use Rattle.std.specs.Prelude.{ℕ, ◌+◌, ◌-◌, slice_index_or, min, ◌==◌, if◌then◌else◌, ◌++◌, length, Bool, true, false}
use Rattle.std.specs.Prelude.{List, [], Option, Some}
use Rattle.std.specs.Prelude.{None}
use Rattle.njh_table.specs.declared.Protocol.{Protocol}
use Rattle.njh_table.specs.declared.Protocol.TheVariants.{Bisync, Tcp}
use Rattle.njh_wire.specs.declared.end.ConnectionEnd.{ConnectionEnd}
use Rattle.njh_wire.specs.declared.last_bytes.LastBytes.{LastBytes}
use Rattle.njh_wire.specs.declared.end.ConnectionEnd.TheVariants as ends
use Rattle.njh_wire.specs.declared.end.Parting.{Parting}
use Rattle.njh_wire.specs.declared.end.Parting.TheVariants.{Closed, Failed}
use Rattle.njh_wire.specs.declared.end.Stop.{Stop}
use Rattle.njh_wire.specs.declared.end.Stop.TheVariants as stops

-- Whose connection was ended from here, on a line over TCP/IP: what waited for it goes out still, until the time that is
-- told; whether it was told that no more is sent.
pub record Leave (C : Type 0) : Type 0 where
  pub who : Option C
  pub rest : List ℕ
  pub until : ℕ
  pub shut : Bool

-- How a wire of a line stands. Times are milliseconds on the service's clock.
pub record Standing (C : Type 0) : Type 0 where
  -- the line's place among those that are served
  pub place : ℕ
  -- by which rules it waits, as its line's protocol has them
  pub protocol : Protocol
  -- who is connected
  pub connection : Option C
  -- who takes the place of the connection that is gone, once its line was told
  pub next : Option C
  -- what the next read answers in place of reading
  pub parting : Option Parting
  -- the bytes that wait to go out, and since when
  pub waiting : List ℕ
  pub since : ℕ
  -- over TCP/IP, when more than an ACK0 last went out, or the connection came, or was told to say what the line doesn't
  -- write
  pub sent : ℕ
  -- whose connection was ended from here
  pub leave : Leave C
  -- whether something may be there to read
  pub readable : Bool
  -- whether a session is up on the connection, as it was told last
  pub up : Bool
  -- the time now, since when the line is silent or was last quiet or prompted, and after how long that is a quiet
  pub clock : ℕ
  pub begun : ℕ
  pub quiet : ℕ
  -- when bytes last came, and the last two of them
  pub heard : ℕ
  pub last_bytes : LastBytes
  -- why the last connection ended
  pub end : Option ConnectionEnd
  pub failures : ℕ
  -- how many bytes its reads answered, and how many of frames it took to send
  pub came : ℕ
  pub went : ℕ

-- when a quiet is due if nothing comes
abbrev pub due : {C : Type 0} → Standing C → ℕ
due s = min (s.begun + s.quiet) 18446744073709551615

abbrev pub nobody_leaves : {C : Type 0} → Leave C
nobody_leaves = record { who = None; rest = []; until = 0; shut = false }

-- Nobody is connected to the line of this place, it is a bisync line's, the clock stands at 0, and 100 milliseconds are
-- a quiet.
abbrev pub first_standing : {C : Type 0} → ℕ → Standing C
first_standing place = record {
  place = place;
  protocol = Bisync;
  connection = None;
  next = None;
  parting = None;
  waiting = [];
  since = 0;
  sent = 0;
  leave = nobody_leaves;
  readable = false;
  up = false;
  clock = 0;
  begun = 0;
  quiet = 100;
  heard = 0;
  last_bytes = record { before = 0; last = 0 };
  end = None;
  failures = 0;
  came = 0;
  went = 0;
}

-- A connection, or none, is there anew: nothing waits, no session is up on it, and its silence begins now.
abbrev pub with_connection : {C : Type 0} → Option C → Standing C → Standing C
with_connection connection s = record s {
  connection = connection;
  next = None;
  parting = None;
  waiting = [];
  readable = true;
  up = false;
  begun = s.clock;
  heard = s.clock;
  sent = s.clock;
}

-- The connection is dropped with what waits, and the next read is to tell.
abbrev pub without_connection : {C : Type 0} → Parting → ConnectionEnd → Standing C → Standing C
without_connection parting end s = record s { connection = None; waiting = []; parting = Some parting; end = Some end }

-- one failure more
abbrev pub with_failure : {C : Type 0} → Standing C → Standing C
with_failure s = record s { failures = min (s.failures + 1) 18446744073709551615 }

-- The connection is given up, which is a failure, and the next takes its place.
abbrev pub given_up : {C : Type 0} → ConnectionEnd → Standing C → Standing C
given_up end s = with_connection s.next (with_failure (without_connection Failed end s))

-- who leaves once a connection is ended from here: its own, over TCP/IP, for a second at most; one that left before is
-- gone then
abbrev pub leave_after : {C : Type 0} → Standing C → Leave C
leave_after s = elim (s.protocol) [
  | Bisync ↦ s.leave
  | Tcp ↦ record {
    who = s.connection;
    rest = s.waiting;
    until = min (s.clock + 1000) 18446744073709551615;
    shut = false;
  }
]

-- The connection is ended from here: the next read is to tell, and over TCP/IP what waits for it goes out still.
abbrev pub ended_here : {C : Type 0} → ConnectionEnd → Standing C → Standing C
ended_here end s = record (without_connection Closed end s) { leave = leave_after s }

-- where somebody is connected, that one is replaced
abbrev pub after_displacement : {C : Type 0} → Standing C → Standing C
after_displacement s = elim (s.connection) [ None ↦ s | Some c ↦ ended_here ends.Replaced s ]

-- a connection is there, at once or once the end of the one before was told
abbrev pub after_admission : {C : Type 0} → C → Standing C → Standing C
after_admission c s = elim (s.parting) [ None ↦ with_connection (Some c) s | Some parting ↦ record s { next = Some c } ]

-- the connection is ended from here
abbrev pub after_close : {C : Type 0} → Standing C → Standing C
after_close s = elim (s.connection) [
  | None ↦ record s { next = None }
  | Some c ↦ record (ended_here ends.Closed s) { next = None }
]

-- how receiving stopped
abbrev pub after_stop : {C : Type 0} → Stop → Standing C → Standing C
after_stop stops.Full s = s
after_stop stops.Dry s = record s { readable = false }
after_stop stops.Paused s = s
after_stop stops.Ended s = record s { parting = Some Closed; end = Some ends.Ended }
after_stop stops.Failed s = record s { parting = Some Failed; end = Some ends.Failed }
after_stop (stops.Refused fault) s = record s { parting = Some Failed; end = Some (ends.Refused fault) }

-- the last two bytes, once these came, of which there is at least one
abbrev pub last_bytes_after : List ℕ → LastBytes → LastBytes
last_bytes_after bytes earlier = record {
  before = if length bytes == 1 then earlier.last else slice_index_or bytes (length bytes - 2) 0;
  last = slice_index_or bytes (length bytes - 1) 0;
}

-- a count, and these bytes more; it stays at the greatest value that it has
abbrev pub plus_bytes : ℕ → List ℕ → ℕ
plus_bytes count bytes = min (count + length bytes) 18446744073709551615

-- these bytes came now
abbrev pub hearing : {C : Type 0} → List ℕ → Standing C → Standing C
hearing bytes s = record s {
  begun = s.clock;
  heard = s.clock;
  last_bytes = last_bytes_after bytes s.last_bytes;
  came = plus_bytes s.came bytes;
}

-- a frame waits behind what waited, since now where nothing did
abbrev pub keeping : {C : Type 0} → List ℕ → Standing C → Standing C
keeping frame s = record s {
  waiting = s.waiting ++ frame;
  since = if length s.waiting == 0 then s.clock else s.since;
  went = plus_bytes s.went frame;
}
