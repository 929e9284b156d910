-- What a wire of a line over TCP/IP answers at a read.
use Rattle.std.proofs.Common.{◌≡◌, ℕ, ◌+◌, ◌<◌, ◌≤◌, ◌⊎◌, Bool, IsTrue, List, [], ◌∷◌, length, take, Result, Ok, Err}
use Rattle.std.proofs.Common.{Some, true, refl, sym, ap, subst, arith, inl, inr, ⊎_elim}
use Rattle.std.proofs.lemmas.Bool.{cases_lt}
use Rattle.njh_bisync.specs.Limits.{longest_frame}
use Rattle.njh_turns.specs.Wires.{answer_acts, heard_of}
use Rattle.njh_turns.specs.declared.wire_reading.Reading.{Reading}
use Rattle.njh_turns.specs.declared.wire_reading.Reading.TheVariants as reading
use Rattle.njh_turns.specs.declared.wire_reading.WireFault.{WireFault}
use Rattle.njh_wire.specs.declared.end.ConnectionEnd.TheVariants as ends
use Rattle.njh_wire.specs.declared.end.Stop.{Stop}
use Rattle.njh_wire.specs.Standing.{Standing}
use Rattle.njh_wire.specs.Readings.{GivesNone, IsAnswer, IsOpen, IsRead, Receives}
use Rattle.njh_wire.specs.ByTcp.{HasRoom, IsAnsweredFor, IsReadByTcp, IsWaitByTcp}
use Rattle.njh_wire.specs.Tally.{tally, IsTallied}
use Rattle.njh_wire.specs.Withheld.{IsWithheld, gives}
use Rattle.njh_wire.specs.code.TallyLaws.{tallied_then}
use Rattle.njh_wire.specs.code.WithheldLaws.{withheld_then}
use Rattle.njh_wire.proofs.PromptLaws.{read_prompted}
use Rattle.njh_wire.proofs.TallyLaws.{none_tallies, read_tallies}
use Rattle.njh_wire.proofs.WithheldLaws.{altered, given_up_withholds, none_withholds, read_withholds, still}

-- ---- while nothing waits

-- no bytes came at a read, and none are its own
pub none_reads : {C : Type 0} (moved : C → C → List ℕ → List ℕ → Type 0) (stops : C → Stop → Type 0)
    (s middle : Standing C) (prompted : Bool) (result : Result Reading WireFault) (buffer : List ℕ) (new : Standing C) →
    GivesNone moved stops s middle → IsAnswer middle prompted result new →
    IsRead moved stops s prompted result buffer new
none_reads moved stops s middle prompted (Ok (reading.Bytes n)) buffer new none answer = absurd answer
none_reads moved stops s middle prompted (Ok reading.Quiet) buffer new none answer = (middle, none, answer)
none_reads moved stops s middle prompted (Ok reading.Pending) buffer new none answer = (middle, none, answer)
none_reads moved stops s middle prompted (Ok reading.Prompted) buffer new none answer = (middle, none, answer)
none_reads moved stops s middle prompted (Ok reading.Closed) buffer new none answer = (middle, none, answer)
none_reads moved stops s middle prompted (Ok reading.Absent) buffer new none answer = (middle, none, answer)
none_reads moved stops s middle prompted (Err fault) buffer new none answer = (middle, none, answer)

answered_tallies : {C : Type 0} (moved : C → C → List ℕ → List ℕ → Type 0) (stops : C → Stop → Type 0)
    (s : Standing C) (result : Result Reading WireFault) (buffer : List ℕ) (new : Standing C) →
    IsAnsweredFor moved stops s result buffer new → IsTallied s new (answer_acts (heard_of result buffer))
answered_tallies {C} moved stops s result buffer new own =
    let Told : Result Reading WireFault → Type 0 = λ told. IsTallied s new (answer_acts (heard_of told buffer)) in
    subst Told (sym own.answers)
    (tallied_then s own.middle new [] (answer_acts (heard_of (Ok (reading.Bytes own.count)) buffer))
    (none_tallies moved stops s own.middle own.silent) (ap (λ (x : Standing C). tally x) (sym own.stands)))

pub tcp_read_tallies : {C : Type 0} (moved : C → C → List ℕ → List ℕ → Type 0) (stops : C → Stop → Type 0)
    (s : Standing C) (prompted : Bool) (result : Result Reading WireFault) (buffer : List ℕ) (new : Standing C) →
    IsReadByTcp moved stops s prompted result buffer new → IsTallied s new (answer_acts (heard_of result buffer))
tcp_read_tallies moved stops s prompted result buffer new (inl read) =
    read_tallies moved stops s prompted result buffer new read
tcp_read_tallies moved stops s prompted result buffer new (inr own) =
    answered_tallies moved stops s result buffer new own

answered_withholds : {C : Type 0} (moved : C → C → List ℕ → List ℕ → Type 0) (stops : C → Stop → Type 0)
    (s : Standing C) (result : Result Reading WireFault) (buffer : List ℕ) (new : Standing C) →
    IsAnsweredFor moved stops s result buffer new → IsWithheld moved s new
answered_withholds moved stops s result buffer new own =
    withheld_then moved (none_withholds moved stops s own.middle own.silent)
    (gives own.middle new own.before own.after (take own.count buffer) own.connected own.moves
    (subst (IsWithheld moved (record own.middle { connection = Some own.after })) (sym own.stands)
    (altered moved (record own.middle { connection = Some own.after }) _ refl refl refl refl)))

pub tcp_read_withholds : {C : Type 0} (moved : C → C → List ℕ → List ℕ → Type 0) (stops : C → Stop → Type 0)
    (s : Standing C) (prompted : Bool) (result : Result Reading WireFault) (buffer : List ℕ) (new : Standing C) →
    IsReadByTcp moved stops s prompted result buffer new → IsWithheld moved s new
tcp_read_withholds moved stops s prompted result buffer new (inl read) =
    read_withholds moved stops s prompted result buffer new read
tcp_read_withholds moved stops s prompted result buffer new (inr own) =
    answered_withholds moved stops s result buffer new own

pub tcp_read_prompted : {C : Type 0} (moved : C → C → List ℕ → List ℕ → Type 0) (stops : C → Stop → Type 0)
    (s : Standing C) (prompted : Bool) (result : Result Reading WireFault) (buffer : List ℕ) (new : Standing C) →
    IsReadByTcp moved stops s prompted result buffer new → result ≡ Ok reading.Prompted → IsTrue prompted
tcp_read_prompted moved stops s prompted result buffer new (inl read) is =
    read_prompted moved stops s prompted result buffer new read is
tcp_read_prompted moved stops s prompted result buffer new (inr own) is = absurd (cc (own.answers, is))

-- ---- while bytes wait

-- what was read on is a read as any other
pub read_on : {C : Type 0} (moved : C → C → List ℕ → List ℕ → Type 0) (stops : C → Stop → Type 0)
    (s : Standing C) (prompted : Bool) (count : ℕ) (buffer : List ℕ) (new : Standing C) →
    IsWaitByTcp moved stops s (Ok (reading.Bytes count)) buffer new →
    IsRead moved stops s prompted (Ok (reading.Bytes count)) buffer new
read_on moved stops s prompted count buffer new (early, room, opens, read) = (opens, read)

pub tcp_wait_tallies : {C : Type 0} (moved : C → C → List ℕ → List ℕ → Type 0) (stops : C → Stop → Type 0)
    (s : Standing C) (result : Result Reading WireFault) (buffer : List ℕ) (new : Standing C) →
    IsWaitByTcp moved stops s result buffer new → IsTallied s new (answer_acts (heard_of result buffer))
tcp_wait_tallies moved stops s (Ok (reading.Bytes n)) buffer new waits =
    read_tallies moved stops s true (Ok (reading.Bytes n)) buffer new (read_on moved stops s true n buffer new waits)
tcp_wait_tallies {C} moved stops s (Ok reading.Pending) buffer new (early, reads, full) = ⊎_elim
    (λ (less : 65536 < length s.waiting + longest_frame).
    ap (λ (x : Standing C). tally x) (sym (full (λ room. absurd (omega (arith, less, room))))))
    (λ (room : length s.waiting + longest_frame ≤ 65536). none_tallies moved stops s new (reads room))
    (cases_lt 65536 (length s.waiting + longest_frame))
tcp_wait_tallies {C} moved stops s (Err fault) buffer new waits = ap (λ (x : Standing C). tally x) (sym waits.1)
tcp_wait_tallies moved stops s (Ok reading.Quiet) buffer new waits = absurd waits
tcp_wait_tallies moved stops s (Ok reading.Prompted) buffer new waits = absurd waits
tcp_wait_tallies moved stops s (Ok reading.Closed) buffer new waits = absurd waits
tcp_wait_tallies moved stops s (Ok reading.Absent) buffer new waits = absurd waits

pub tcp_wait_withholds : {C : Type 0} (moved : C → C → List ℕ → List ℕ → Type 0) (stops : C → Stop → Type 0)
    (s : Standing C) (result : Result Reading WireFault) (buffer : List ℕ) (new : Standing C) →
    IsWaitByTcp moved stops s result buffer new → IsWithheld moved s new
tcp_wait_withholds moved stops s (Ok (reading.Bytes n)) buffer new waits =
    read_withholds moved stops s true (Ok (reading.Bytes n)) buffer new (read_on moved stops s true n buffer new waits)
tcp_wait_withholds moved stops s (Ok reading.Pending) buffer new (early, reads, full) = ⊎_elim
    (λ (less : 65536 < length s.waiting + longest_frame).
    still moved s new (full (λ room. absurd (omega (arith, less, room)))))
    (λ (room : length s.waiting + longest_frame ≤ 65536). none_withholds moved stops s new (reads room))
    (cases_lt 65536 (length s.waiting + longest_frame))
tcp_wait_withholds moved stops s (Err fault) buffer new waits = given_up_withholds moved ends.Stalled s new waits.1
tcp_wait_withholds moved stops s (Ok reading.Quiet) buffer new waits = absurd waits
tcp_wait_withholds moved stops s (Ok reading.Prompted) buffer new waits = absurd waits
tcp_wait_withholds moved stops s (Ok reading.Closed) buffer new waits = absurd waits
tcp_wait_withholds moved stops s (Ok reading.Absent) buffer new waits = absurd waits

pub tcp_wait_unprompted : {C P : Type 0} (moved : C → C → List ℕ → List ℕ → Type 0) (stops : C → Stop → Type 0)
    (s : Standing C) (result : Result Reading WireFault) (buffer : List ℕ) (new : Standing C) →
    IsWaitByTcp moved stops s result buffer new → result ≡ Ok reading.Prompted → P
tcp_wait_unprompted moved stops s (Ok (reading.Bytes n)) buffer new waits is = cc
tcp_wait_unprompted moved stops s (Ok reading.Quiet) buffer new waits is = absurd waits
tcp_wait_unprompted moved stops s (Ok reading.Pending) buffer new waits is = cc
tcp_wait_unprompted moved stops s (Ok reading.Prompted) buffer new waits is = absurd waits
tcp_wait_unprompted moved stops s (Ok reading.Closed) buffer new waits is = absurd waits
tcp_wait_unprompted moved stops s (Ok reading.Absent) buffer new waits is = absurd waits
tcp_wait_unprompted moved stops s (Err fault) buffer new waits is = cc
