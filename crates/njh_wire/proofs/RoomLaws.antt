-- On a line over TCP/IP the longest frame has room after a read.
use Rattle.std.proofs.Common.{◌≡◌, ◌≢◌, ℕ, ◌+◌, ◌≤◌, Bool, List, [], length, take, Result, Ok, Err, refl, sym, ap, ◌∙◌}
use Rattle.std.proofs.Common.{subst, inl, inr, ⊎_elim, arith}
use Rattle.njh_bisync.specs.Limits.{longest_frame}
use Rattle.njh_turns.specs.declared.wire_reading.Reading.{Reading}
use Rattle.njh_turns.specs.declared.wire_reading.Reading.TheVariants as reading
use Rattle.njh_turns.specs.declared.wire_reading.WireFault.{WireFault}
use Rattle.njh_wire.specs.declared.end.Stop.{Stop}
use Rattle.njh_wire.specs.declared.end.Stop.TheVariants as why
use Rattle.njh_wire.specs.Standing.{Standing, after_stop}
use Rattle.njh_wire.specs.Readings.{GivesNone, IsAnswer, IsRead, Receives}
use Rattle.njh_wire.specs.ByTcp.{HasRoom, IsReadByTcp, IsWaitByTcp}
use Rattle.njh_wire.proofs.WithheldLaws.{open_or_shut}

-- what waits has room, and so has what waits then
room_kept : {C : Type 0} (s new : Standing C) → new.waiting ≡ s.waiting → HasRoom s → HasRoom new
room_kept s new same room =
    let Fits : List ℕ → Type 0 = λ waiting. length waiting + longest_frame ≤ 65536 in
    subst Fits (sym same) room

room_empty : {C : Type 0} (s : Standing C) → s.waiting ≡ [] → HasRoom s
room_empty s none =
    let Fits : List ℕ → Type 0 = λ waiting. length waiting + longest_frame ≤ 65536 in
    subst Fits (sym none) (omega arith)

stop_waits : {C : Type 0} (stop : Stop) (s : Standing C) → (after_stop stop s).waiting ≡ s.waiting
stop_waits why.Full s = refl
stop_waits why.Dry s = refl
stop_waits why.Paused s = refl
stop_waits why.Ended s = refl
stop_waits why.Failed s = refl
stop_waits (why.Refused fault) s = refl

received_waits : {C : Type 0} (moved : C → C → List ℕ → List ℕ → Type 0) (stops : C → Stop → Type 0)
    (s : Standing C) (bytes : List ℕ) (new : Standing C) → Receives moved stops s bytes new → new.waiting ≡ s.waiting
received_waits {C} moved stops s bytes new received =
    ap (λ (x : Standing C). x.waiting) received.stands ∙ stop_waits received.stop _

none_waits : {C : Type 0} (moved : C → C → List ℕ → List ℕ → Type 0) (stops : C → Stop → Type 0)
    (s new : Standing C) → GivesNone moved stops s new → new.waiting ≡ s.waiting
none_waits {C} moved stops s new none =
    ⊎_elim (λ opens. received_waits moved stops s [] new (none.received opens))
    (λ shut. ap (λ (x : Standing C). x.waiting) (none.shut shut))
    (open_or_shut s.connection s.readable s.parting)

-- no bytes came at a read
answer_room : {C : Type 0} (s : Standing C) (prompted : Bool) (result : Result Reading WireFault) (new : Standing C) →
    IsAnswer s prompted result new → s.waiting ≡ [] → HasRoom new
answer_room {C} s prompted (Ok reading.Closed) new (told, same) none =
    room_empty new (ap (λ (x : Standing C). x.waiting) same)
answer_room {C} s prompted (Err fault) new (told, same) none =
    room_empty new (ap (λ (x : Standing C). x.waiting) same)
answer_room s prompted (Ok (reading.Bytes n)) new answer none = absurd answer
answer_room {C} s prompted (Ok reading.Quiet) new (told, (here, unasked, due, same)) none =
    room_empty new (ap (λ (x : Standing C). x.waiting) same ∙ none)
answer_room {C} s prompted (Ok reading.Pending) new (told, (here, unasked, due, same)) none =
    room_empty new (ap (λ (x : Standing C). x.waiting) same ∙ none)
answer_room {C} s prompted (Ok reading.Prompted) new (told, (here, asked, same)) none =
    room_empty new (ap (λ (x : Standing C). x.waiting) same ∙ none)
answer_room {C} s prompted (Ok reading.Absent) new (told, (nobody, same)) none =
    room_empty new (ap (λ (x : Standing C). x.waiting) same ∙ none)

silence_room : {C : Type 0} (moved : C → C → List ℕ → List ℕ → Type 0) (stops : C → Stop → Type 0)
    (s middle : Standing C) (prompted : Bool) (result : Result Reading WireFault) (new : Standing C) →
    GivesNone moved stops s middle → IsAnswer middle prompted result new → s.waiting ≡ [] → HasRoom new
silence_room moved stops s middle prompted result new none answer empty =
    answer_room middle prompted result new answer (none_waits moved stops s middle none ∙ empty)

read_room : {C : Type 0} (moved : C → C → List ℕ → List ℕ → Type 0) (stops : C → Stop → Type 0)
    (s : Standing C) (prompted : Bool) (result : Result Reading WireFault) (buffer : List ℕ) (new : Standing C) →
    s.waiting ≡ [] → IsRead moved stops s prompted result buffer new → HasRoom new
read_room {C} moved stops s prompted (Ok (reading.Bytes n)) buffer new empty (opens, (middle, received, same)) =
    room_empty new (ap (λ (x : Standing C). x.waiting) same
    ∙ (received_waits moved stops s (take n buffer) middle received ∙ empty))
read_room moved stops s prompted (Ok reading.Quiet) buffer new empty (middle, none, answer) =
    silence_room moved stops s middle prompted (Ok reading.Quiet) new none answer empty
read_room moved stops s prompted (Ok reading.Pending) buffer new empty (middle, none, answer) =
    silence_room moved stops s middle prompted (Ok reading.Pending) new none answer empty
read_room moved stops s prompted (Ok reading.Prompted) buffer new empty (middle, none, answer) =
    silence_room moved stops s middle prompted (Ok reading.Prompted) new none answer empty
read_room moved stops s prompted (Ok reading.Closed) buffer new empty (middle, none, answer) =
    silence_room moved stops s middle prompted (Ok reading.Closed) new none answer empty
read_room moved stops s prompted (Ok reading.Absent) buffer new empty (middle, none, answer) =
    silence_room moved stops s middle prompted (Ok reading.Absent) new none answer empty
read_room moved stops s prompted (Err fault) buffer new empty (middle, none, answer) =
    silence_room moved stops s middle prompted (Err fault) new none answer empty

-- a read while nothing waits
pub tcp_read_room : {C : Type 0} (moved : C → C → List ℕ → List ℕ → Type 0) (stops : C → Stop → Type 0)
    (s : Standing C) (prompted : Bool) (result : Result Reading WireFault) (buffer : List ℕ) (new : Standing C) →
    s.waiting ≡ [] → IsReadByTcp moved stops s prompted result buffer new → HasRoom new
tcp_read_room moved stops s prompted result buffer new empty (inl read) =
    read_room moved stops s prompted result buffer new empty read
tcp_read_room {C} moved stops s prompted result buffer new empty (inr own) =
    room_empty new (ap (λ (x : Standing C). x.waiting) own.stands
    ∙ (none_waits moved stops s own.middle own.silent ∙ empty))

-- a read while bytes wait
pub tcp_wait_room : {C : Type 0} (moved : C → C → List ℕ → List ℕ → Type 0) (stops : C → Stop → Type 0)
    (s : Standing C) (result : Result Reading WireFault) (buffer : List ℕ) (new : Standing C) →
    IsWaitByTcp moved stops s result buffer new → result ≢ Ok reading.Pending → HasRoom new
tcp_wait_room {C} moved stops s (Ok (reading.Bytes n)) buffer new (early, room, opens, (middle, received, same)) tells =
    room_kept s new (ap (λ (x : Standing C). x.waiting) same
    ∙ received_waits moved stops s (take n buffer) middle received) room
tcp_wait_room moved stops s (Ok reading.Pending) buffer new waits tells = absurd (tells refl)
tcp_wait_room {C} moved stops s (Err fault) buffer new (late, same) tells =
    room_empty new (ap (λ (x : Standing C). x.waiting) same)
tcp_wait_room moved stops s (Ok reading.Quiet) buffer new waits tells = absurd waits
tcp_wait_room moved stops s (Ok reading.Prompted) buffer new waits tells = absurd waits
tcp_wait_room moved stops s (Ok reading.Closed) buffer new waits tells = absurd waits
tcp_wait_room moved stops s (Ok reading.Absent) buffer new waits tells = absurd waits
