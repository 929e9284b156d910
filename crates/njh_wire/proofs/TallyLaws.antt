-- What a wire answers at a read, and what it takes to send, is what it counts.
use Rattle.std.proofs.Common.{◌≡◌, ℕ, Bool, List, [], ◌∷◌, take, Result, Ok, Err, refl, sym, ap, ◌∙◌, ⊎_elim}
use Rattle.njh_turns.specs.Wires.{Sent, answer_acts, heard_of}
use Rattle.njh_turns.specs.declared.wire_reading.Reading.{Reading}
use Rattle.njh_turns.specs.declared.wire_reading.Reading.TheVariants as reading
use Rattle.njh_turns.specs.declared.wire_reading.WireFault.{WireFault}
use Rattle.njh_wire.specs.declared.end.Stop.{Stop}
use Rattle.njh_wire.specs.declared.end.Stop.TheVariants as why
use Rattle.njh_wire.specs.Standing.{Standing, after_stop}
use Rattle.njh_wire.specs.Readings.{IsAnswer, IsWait, IsRead, IsWritten, GivesNone, Receives}
use Rattle.njh_wire.specs.Tally.{tally, IsTallied}
use Rattle.njh_wire.specs.code.TallyLaws.{tallied_then}
use Rattle.njh_wire.proofs.WithheldLaws.{open_or_shut}

-- a frame was written
pub written_tallies : {C : Type 0} (s : Standing C) (frame : List ℕ) (new : Standing C) → IsWritten s frame new →
    IsTallied s new (Sent frame ∷ [])
written_tallies {C} s frame new written = ap (λ (x : Standing C). tally x) (sym written.1)

-- bytes wait to go out at a read
pub wait_tallies : {C : Type 0} (s : Standing C) (result : Result Reading WireFault) (buffer : List ℕ)
    (new : Standing C) → IsWait s result new → IsTallied s new (answer_acts (heard_of result buffer))
wait_tallies {C} s (Ok reading.Pending) buffer new waits = ap (λ (x : Standing C). tally x) (sym waits.1)
wait_tallies {C} s (Err fault) buffer new waits = ap (λ (x : Standing C). tally x) (sym waits.1)
wait_tallies s (Ok (reading.Bytes n)) buffer new waits = absurd waits
wait_tallies s (Ok reading.Quiet) buffer new waits = absurd waits
wait_tallies s (Ok reading.Prompted) buffer new waits = absurd waits
wait_tallies s (Ok reading.Closed) buffer new waits = absurd waits
wait_tallies s (Ok reading.Absent) buffer new waits = absurd waits

-- no bytes came at a read
answer_tallies : {C : Type 0} (s : Standing C) (prompted : Bool) (result : Result Reading WireFault) (buffer : List ℕ)
    (new : Standing C) → IsAnswer s prompted result new → IsTallied s new (answer_acts (heard_of result buffer))
answer_tallies {C} s prompted (Ok reading.Closed) buffer new answer = ap (λ (x : Standing C). tally x) (sym answer.1)
answer_tallies {C} s prompted (Err fault) buffer new answer = ap (λ (x : Standing C). tally x) (sym answer.1)
answer_tallies s prompted (Ok (reading.Bytes n)) buffer new answer = absurd answer
answer_tallies {C} s prompted (Ok reading.Quiet) buffer new (told, (here, unasked, due, same)) =
    ap (λ (x : Standing C). tally x) (sym same)
answer_tallies {C} s prompted (Ok reading.Pending) buffer new (told, (here, unasked, due, same)) =
    ap (λ (x : Standing C). tally x) (sym same)
answer_tallies {C} s prompted (Ok reading.Prompted) buffer new (told, (here, asked, same)) =
    ap (λ (x : Standing C). tally x) (sym same)
answer_tallies {C} s prompted (Ok reading.Absent) buffer new (told, (nobody, same)) =
    ap (λ (x : Standing C). tally x) (sym same)

-- why no more bytes came is kept
stop_tallies : {C : Type 0} (stop : Stop) (s : Standing C) → tally s ≡ tally (after_stop stop s)
stop_tallies why.Full s = refl
stop_tallies why.Dry s = refl
stop_tallies why.Paused s = refl
stop_tallies why.Ended s = refl
stop_tallies why.Failed s = refl
stop_tallies (why.Refused fault) s = refl

-- the connection was read
received_tallies : {C : Type 0} (moved : C → C → List ℕ → List ℕ → Type 0) (stops : C → Stop → Type 0)
    (s : Standing C) (bytes : List ℕ) (new : Standing C) → Receives moved stops s bytes new → tally s ≡ tally new
received_tallies {C} moved stops s bytes new received =
    stop_tallies received.stop _ ∙ ap (λ (x : Standing C). tally x) (sym received.stands)

-- the connection gave none, or wasn't read
pub none_tallies : {C : Type 0} (moved : C → C → List ℕ → List ℕ → Type 0) (stops : C → Stop → Type 0)
    (s new : Standing C) → GivesNone moved stops s new → tally s ≡ tally new
none_tallies {C} moved stops s new none =
    ⊎_elim (λ opens. received_tallies moved stops s [] new (none.received opens))
    (λ shut. ap (λ (x : Standing C). tally x) (sym (none.shut shut)))
    (open_or_shut s.connection s.readable s.parting)

-- no bytes came at a read, and it answers so
silence_tallies : {C : Type 0} (moved : C → C → List ℕ → List ℕ → Type 0) (stops : C → Stop → Type 0)
    (s middle : Standing C) (prompted : Bool) (result : Result Reading WireFault) (buffer : List ℕ) (new : Standing C) →
    GivesNone moved stops s middle → IsAnswer middle prompted result new →
    IsTallied s new (answer_acts (heard_of result buffer))
silence_tallies moved stops s middle prompted result buffer new none answer =
    tallied_then s middle new [] (answer_acts (heard_of result buffer)) (none_tallies moved stops s middle none)
    (answer_tallies middle prompted result buffer new answer)

-- a read while nothing waits
pub read_tallies : {C : Type 0} (moved : C → C → List ℕ → List ℕ → Type 0) (stops : C → Stop → Type 0)
    (s : Standing C) (prompted : Bool) (result : Result Reading WireFault) (buffer : List ℕ) (new : Standing C) →
    IsRead moved stops s prompted result buffer new → IsTallied s new (answer_acts (heard_of result buffer))
read_tallies {C} moved stops s prompted (Ok (reading.Bytes n)) buffer new (opens, (middle, received, same)) =
    tallied_then s middle new [] (answer_acts (heard_of (Ok (reading.Bytes n)) buffer))
    (received_tallies moved stops s (take n buffer) middle received) (ap (λ (x : Standing C). tally x) (sym same))
read_tallies moved stops s prompted (Ok reading.Quiet) buffer new (middle, none, answer) =
    silence_tallies moved stops s middle prompted (Ok reading.Quiet) buffer new none answer
read_tallies moved stops s prompted (Ok reading.Pending) buffer new (middle, none, answer) =
    silence_tallies moved stops s middle prompted (Ok reading.Pending) buffer new none answer
read_tallies moved stops s prompted (Ok reading.Prompted) buffer new (middle, none, answer) =
    silence_tallies moved stops s middle prompted (Ok reading.Prompted) buffer new none answer
read_tallies moved stops s prompted (Ok reading.Closed) buffer new (middle, none, answer) =
    silence_tallies moved stops s middle prompted (Ok reading.Closed) buffer new none answer
read_tallies moved stops s prompted (Ok reading.Absent) buffer new (middle, none, answer) =
    silence_tallies moved stops s middle prompted (Ok reading.Absent) buffer new none answer
read_tallies moved stops s prompted (Err fault) buffer new (middle, none, answer) =
    silence_tallies moved stops s middle prompted (Err fault) buffer new none answer
