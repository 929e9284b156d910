-- A wire answers that it was prompted only where it was.
use Rattle.std.proofs.Common.{◌≡◌, ℕ, Bool, IsTrue, List, Result, Ok, Err}
use Rattle.njh_turns.specs.declared.wire_reading.Reading.{Reading}
use Rattle.njh_turns.specs.declared.wire_reading.Reading.TheVariants as reading
use Rattle.njh_turns.specs.declared.wire_reading.WireFault.{WireFault}
use Rattle.njh_wire.specs.declared.end.Stop.{Stop}
use Rattle.njh_wire.specs.Standing.{Standing}
use Rattle.njh_wire.specs.Readings.{IsWait, IsRead}

-- while bytes wait to go out it never does
pub wait_unprompted : {C P : Type 0} (s : Standing C) (result : Result Reading WireFault) (new : Standing C) →
    IsWait s result new → result ≡ Ok reading.Prompted → P
wait_unprompted s (Ok (reading.Bytes n)) new waits is = absurd waits
wait_unprompted s (Ok reading.Quiet) new waits is = absurd waits
wait_unprompted s (Ok reading.Pending) new waits is = cc
wait_unprompted s (Ok reading.Prompted) new waits is = absurd waits
wait_unprompted s (Ok reading.Closed) new waits is = absurd waits
wait_unprompted s (Ok reading.Absent) new waits is = absurd waits
wait_unprompted s (Err fault) new waits is = cc

pub read_prompted : {C : Type 0} (moved : C → C → List ℕ → List ℕ → Type 0) (stops : C → Stop → Type 0)
    (s : Standing C) (prompted : Bool) (result : Result Reading WireFault) (buffer : List ℕ) (new : Standing C) →
    IsRead moved stops s prompted result buffer new → result ≡ Ok reading.Prompted → IsTrue prompted
read_prompted moved stops s prompted (Ok (reading.Bytes n)) buffer new read is = cc
read_prompted moved stops s prompted (Ok reading.Quiet) buffer new read is = cc
read_prompted moved stops s prompted (Ok reading.Pending) buffer new read is = cc
read_prompted moved stops s prompted (Ok reading.Prompted) buffer new (middle, none, (told, (here, asked, same))) is =
    asked
read_prompted moved stops s prompted (Ok reading.Closed) buffer new read is = cc
read_prompted moved stops s prompted (Ok reading.Absent) buffer new read is = cc
read_prompted moved stops s prompted (Err fault) buffer new read is = cc
