-- Of what a wire does at a read or a write no byte goes out.
use Rattle.std.proofs.Common.{◌≡◌, ℕ, ◌⊎◌, inl, inr, Bool, true, false, IsTrue, List, [], take, Result, Ok, Err}
use Rattle.std.proofs.Common.{Option, Some, None, IsSome, refl, sym, subst, ◌∙◌, ⊎_elim}
use Rattle.std.proofs.lemmas.List.{append-nil}
use Rattle.njh_turns.specs.declared.wire_reading.Reading.{Reading}
use Rattle.njh_turns.specs.declared.wire_reading.Reading.TheVariants as reading
use Rattle.njh_turns.specs.declared.wire_reading.WireFault.{WireFault}
use Rattle.njh_wire.specs.declared.end.ConnectionEnd.{ConnectionEnd}
use Rattle.njh_wire.specs.declared.end.ConnectionEnd.TheVariants as ends
use Rattle.njh_wire.specs.declared.end.Parting.{Parting}
use Rattle.njh_wire.specs.declared.end.Parting.TheVariants.{Failed}
use Rattle.njh_wire.specs.declared.end.Stop.{Stop}
use Rattle.njh_wire.specs.declared.end.Stop.TheVariants as why
use Rattle.njh_wire.specs.Standing.{Standing, without_connection, with_failure, given_up, after_stop}
use Rattle.njh_wire.specs.Readings.{IsAnswer, IsWait, IsRead, IsWritten, GivesNone, Receives}
use Rattle.njh_wire.specs.Withheld.{IsWithheld, nothing, gives, drops, follows, stays}
use Rattle.njh_wire.specs.code.WithheldLaws.{withheld_then}

-- it stands as before
pub still : {C : Type 0} (moved : C → C → List ℕ → List ℕ → Type 0) (s new : Standing C) → new ≡ s → IsWithheld moved s new
still moved s new same = subst (IsWithheld moved s) (sym same) (nothing s)

-- only times, marks and counts changed
pub altered : {C : Type 0} (moved : C → C → List ℕ → List ℕ → Type 0) (s new : Standing C) → new.connection ≡ s.connection →
    new.next ≡ s.next → new.leave ≡ s.leave → new.waiting ≡ s.waiting → IsWithheld moved s new
altered moved s new connection next leaves waiting =
    stays s new new [] connection next leaves (waiting ∙ sym (append-nil s.waiting)) (nothing new)

-- the connection is given up, and the next one takes its place
pub given_up_withholds : {C : Type 0} (moved : C → C → List ℕ → List ℕ → Type 0) (end : ConnectionEnd)
    (s new : Standing C) → new ≡ given_up end s → IsWithheld moved s new
given_up_withholds moved end s new same =
    let gone = without_connection Failed end s in
    subst (IsWithheld moved s) (sym same)
    (drops s _ Failed end
    (stays gone (with_failure gone) _ [] refl refl refl refl (follows (with_failure gone) _ (nothing _))))

-- a frame was written
pub written_withholds : {C : Type 0} (moved : C → C → List ℕ → List ℕ → Type 0) (s : Standing C) (frame : List ℕ)
    (new : Standing C) → IsWritten s frame new → IsWithheld moved s new
written_withholds moved s frame new written =
    subst (IsWithheld moved s) (sym written.1) (stays s _ _ frame refl refl refl refl (nothing _))

-- bytes wait to go out at a read
pub wait_withholds : {C : Type 0} (moved : C → C → List ℕ → List ℕ → Type 0) (s : Standing C)
    (result : Result Reading WireFault) (new : Standing C) → IsWait s result new → IsWithheld moved s new
wait_withholds moved s (Ok reading.Pending) new waits = still moved s new waits.1
wait_withholds moved s (Err fault) new waits = given_up_withholds moved ends.Stalled s new waits.1
wait_withholds moved s (Ok (reading.Bytes n)) new waits = absurd waits
wait_withholds moved s (Ok reading.Quiet) new waits = absurd waits
wait_withholds moved s (Ok reading.Prompted) new waits = absurd waits
wait_withholds moved s (Ok reading.Closed) new waits = absurd waits
wait_withholds moved s (Ok reading.Absent) new waits = absurd waits

-- no bytes came at a read
pub answer_withholds : {C : Type 0} (moved : C → C → List ℕ → List ℕ → Type 0) (s : Standing C) (prompted : Bool)
    (result : Result Reading WireFault) (new : Standing C) → IsAnswer s prompted result new → IsWithheld moved s new
answer_withholds moved s prompted (Ok reading.Closed) new answer =
    subst (IsWithheld moved s) (sym answer.1) (follows s _ (nothing _))
answer_withholds moved s prompted (Err fault) new answer =
    subst (IsWithheld moved s) (sym answer.1)
    (withheld_then moved (altered moved s (with_failure s) refl refl refl refl) (follows (with_failure s) _ (nothing _)))
answer_withholds moved s prompted (Ok (reading.Bytes n)) new answer = absurd answer
answer_withholds moved s prompted (Ok reading.Quiet) new (told, (here, unasked, due, same)) =
    subst (IsWithheld moved s) (sym same) (altered moved s _ refl refl refl refl)
answer_withholds moved s prompted (Ok reading.Pending) new (told, (here, unasked, due, same)) = still moved s new same
answer_withholds moved s prompted (Ok reading.Prompted) new (told, (here, asked, same)) =
    subst (IsWithheld moved s) (sym same) (altered moved s _ refl refl refl refl)
answer_withholds moved s prompted (Ok reading.Absent) new (told, (nobody, same)) = still moved s new same

-- why no more bytes came is kept
stop_withholds : {C : Type 0} (moved : C → C → List ℕ → List ℕ → Type 0) (stop : Stop) (s : Standing C) →
    IsWithheld moved s (after_stop stop s)
stop_withholds moved why.Full s = nothing s
stop_withholds moved why.Dry s = altered moved s _ refl refl refl refl
stop_withholds moved why.Paused s = nothing s
stop_withholds moved why.Ended s = altered moved s _ refl refl refl refl
stop_withholds moved why.Failed s = altered moved s _ refl refl refl refl
stop_withholds moved (why.Refused fault) s = altered moved s _ refl refl refl refl

-- the connection was read
pub received_withholds : {C : Type 0} (moved : C → C → List ℕ → List ℕ → Type 0) (stops : C → Stop → Type 0)
    (s : Standing C) (bytes : List ℕ) (new : Standing C) → Receives moved stops s bytes new → IsWithheld moved s new
received_withholds moved stops s bytes new received =
    gives s new received.before received.after bytes received.connected received.moves
    (subst (IsWithheld moved (record s { connection = Some received.after })) (sym received.stands)
    (stop_withholds moved received.stop _))

-- something may be there to read, or not
abbrev pub Opens : {C : Type 0} → Option C → Bool → Option Parting → Type 0
Opens connection readable parting = IsSome connection × IsTrue readable × (parting ≡ None)

pub open_or_shut : {C : Type 0} (connection : Option C) (readable : Bool) (parting : Option Parting) →
    Opens connection readable parting ⊎ ¬ Opens connection readable parting
open_or_shut (Some c) true None = inl (refl, refl, refl)
open_or_shut None readable parting = inr (λ opens. absurd (cc opens.0))
open_or_shut (Some c) false parting = inr (λ opens. absurd (cc opens.1))
open_or_shut (Some c) true (Some told) = inr (λ opens. absurd (cc opens.2))

-- the connection gave none, or wasn't read
pub none_withholds : {C : Type 0} (moved : C → C → List ℕ → List ℕ → Type 0) (stops : C → Stop → Type 0)
    (s new : Standing C) → GivesNone moved stops s new → IsWithheld moved s new
none_withholds moved stops s new none =
    ⊎_elim (λ opens. received_withholds moved stops s [] new (none.received opens))
    (λ shut. still moved s new (none.shut shut))
    (open_or_shut s.connection s.readable s.parting)

-- no bytes came at a read, and it answers so
silence_withholds : {C : Type 0} (moved : C → C → List ℕ → List ℕ → Type 0) (stops : C → Stop → Type 0)
    (s middle : Standing C) (prompted : Bool) (result : Result Reading WireFault) (new : Standing C) →
    GivesNone moved stops s middle → IsAnswer middle prompted result new → IsWithheld moved s new
silence_withholds moved stops s middle prompted result new none answer =
    withheld_then moved (none_withholds moved stops s middle none)
    (answer_withholds moved middle prompted result new answer)

-- a read while nothing waits
pub read_withholds : {C : Type 0} (moved : C → C → List ℕ → List ℕ → Type 0) (stops : C → Stop → Type 0)
    (s : Standing C) (prompted : Bool) (result : Result Reading WireFault) (buffer : List ℕ) (new : Standing C) →
    IsRead moved stops s prompted result buffer new → IsWithheld moved s new
read_withholds moved stops s prompted (Ok (reading.Bytes n)) buffer new (opens, (middle, received, same)) =
    withheld_then moved (received_withholds moved stops s (take n buffer) middle received)
    (subst (IsWithheld moved middle) (sym same) (altered moved middle _ refl refl refl refl))
read_withholds moved stops s prompted (Ok reading.Quiet) buffer new (middle, none, answer) =
    silence_withholds moved stops s middle prompted (Ok reading.Quiet) new none answer
read_withholds moved stops s prompted (Ok reading.Pending) buffer new (middle, none, answer) =
    silence_withholds moved stops s middle prompted (Ok reading.Pending) new none answer
read_withholds moved stops s prompted (Ok reading.Prompted) buffer new (middle, none, answer) =
    silence_withholds moved stops s middle prompted (Ok reading.Prompted) new none answer
read_withholds moved stops s prompted (Ok reading.Closed) buffer new (middle, none, answer) =
    silence_withholds moved stops s middle prompted (Ok reading.Closed) new none answer
read_withholds moved stops s prompted (Ok reading.Absent) buffer new (middle, none, answer) =
    silence_withholds moved stops s middle prompted (Ok reading.Absent) new none answer
read_withholds moved stops s prompted (Err fault) buffer new (middle, none, answer) =
    silence_withholds moved stops s middle prompted (Err fault) new none answer
