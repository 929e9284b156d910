-- A turn of a wire: its read, and what comes of the answer.
use Rattle.std.proofs.Common.{◌≡◌, ℕ, ◌<◌, ◌≤◌, List, ◌++◌, Option, Result, Ok, Err, refl, ⊎_elim, arith, inl, inr}
use Rattle.std.specs.Prelude.{OnErr, IsSome}
use Rattle.std.proofs.lemmas.Bool.{cases_lt}
use Rattle.njh_table.specs.declared.LineId.{LineId}
use Rattle.njh_hub.specs.Resting.{IsResting}
use Rattle.njh_hub.specs.Sent.{IsCounted}
use Rattle.njh_hub.specs.WholeHub.{Part}
use Rattle.njh_hub.proofs.RunningLaws.{counted_from}
use Rattle.njh_turns.specs.declared.wire_reading.Reading.{Reading}
use Rattle.njh_turns.specs.declared.wire_reading.Reading.TheVariants as reading
use Rattle.njh_turns.specs.declared.wire_reading.WireFault.{WireFault}
use Rattle.njh_turns.specs.Turns.{IsTurn, IsHeard, wire_event, written_where}
use Rattle.njh_turns.specs.Wires.{Prompted, Failed, heard_of, WireAct, answer_acts, WireSays, hub_wire}

-- an answer that is a failure is a fault
pub failed-err : {P : Type 0} (answer : Result Reading WireFault) (buffer : List ℕ) → heard_of answer buffer ≡ Failed
    → OnErr answer P → P
failed-err (Ok (reading.Bytes n)) buffer is told = cc
failed-err (Ok reading.Quiet) buffer is told = cc
failed-err (Ok reading.Pending) buffer is told = cc
failed-err (Ok reading.Prompted) buffer is told = cc
failed-err (Ok reading.Closed) buffer is told = cc
failed-err (Ok reading.Absent) buffer is told = cc
failed-err (Err fault) buffer is told = told

-- an answer to a prompt is just that
pub prompted-ok : {P : Type 0} (answer : Result Reading WireFault) (buffer : List ℕ) → heard_of answer buffer ≡ Prompted
    → (answer ≡ Ok reading.Prompted → P) → P
prompted-ok (Ok (reading.Bytes n)) buffer is told = cc
prompted-ok (Ok reading.Quiet) buffer is told = cc
prompted-ok (Ok reading.Pending) buffer is told = cc
prompted-ok (Ok reading.Prompted) buffer is told = told refl
prompted-ok (Ok reading.Closed) buffer is told = cc
prompted-ok (Ok reading.Absent) buffer is told = cc
prompted-ok (Err fault) buffer is told = cc

-- what was counted stays counted
pub counted_on : (before now after : ℕ) → before ≤ now → now ≤ after → IsCounted before now → IsCounted before after
counted_on before now after first then c =
    ⊎_elim (λ (w : before < now). inl (omega arith))
    (λ (w : now ≡ 18446744073709551615). ⊎_elim (λ (m : now < after). inl (omega arith))
    (λ (m : after ≤ now). inr (omega arith))
    (cases_lt now after)) c

-- a turn of a read and of what came of its answer
pub read_turn : {S : Type 0} (says : WireSays S) (parts new : List Part)
    (id : LineId)
    (quiet : ℕ) (answer : Result Reading WireFault) (buffer : List ℕ) (cut : Option ℕ) (wire read new_wire : S) →
    ((a b c : S) (xs ys : List WireAct) → says.passed a b xs → says.passed b c ys → says.passed a c (xs ++ ys)) →
    says.passed wire read (answer_acts (heard_of answer buffer)) → says.count wire ≤ says.count read →
    OnErr answer (IsCounted (says.count wire) (says.count read)) →
    (answer ≡ Ok reading.Prompted → IsResting parts id) →
    IsHeard says (hub_wire parts read) (wire_event id quiet (heard_of answer buffer)) cut (hub_wire new new_wire) →
    IsTurn says id quiet (hub_wire parts wire) (record { heard = heard_of answer buffer; cut = cut })
    (hub_wire new new_wire)
read_turn says parts new id quiet answer buffer cut wire read new_wire more answered counts counted rests h = record {
  hub = h.hub;
  acts = more wire read new_wire (answer_acts (heard_of answer buffer))
      (written_where parts cut (wire_event id quiet (heard_of answer buffer)))
      answered h.acts;
  stop = h.stop;
  prompted = λ w. prompted-ok answer buffer w rests;
  counts = omega (arith, counts, h.counts);
  counted = λ fault. ⊎_elim (λ (w : heard_of answer buffer ≡ Failed). counted_on (says.count wire) (says.count read)
      (says.count new_wire) counts
      h.counts (failed-err answer buffer w counted))
      (λ (w : IsSome cut). counted_from (says.count wire) (says.count read) (says.count new_wire) counts
      (h.counted w)) fault;
}
