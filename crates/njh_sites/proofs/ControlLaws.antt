-- What came for a control record, and what went out behind it.
use Rattle.std.proofs.Common.{◌≡◌, ◌∙◌, ℕ, ◌-◌, ◌≤◌, List, [], ◌++◌, ap, arith, length, min, subst, take}
use Rattle.std.proofs.lemmas.List.{append-nil, take_all}
use Rattle.njh_tcp.specs.Controls.{control_bytes, hosts_in}
use Rattle.njh_tcp.specs.declared.control.ControlRecord.{ControlRecord}
use Rattle.njh_open.specs.Verdicts.{answer_to}
use Rattle.njh_open.specs.Waits.{Wait}
use Rattle.njh_open.specs.declared.verdict.Verdict.{Verdict}
use Rattle.njh_sites.specs.Asking.{answer_bytes, IsAsked, IsHeard}
use Rattle.njh_sites.specs.declared.asking.Asking.{Asking}
use Rattle.njh_wire.proofs.MovedLaws.{More}

-- all that came was taken
pub took_all : (wait new : Wait) (bytes piece : List ℕ) (count most : ℕ) → piece ≡ bytes
    → count ≡ min (length piece) (33 - length wait.came) → most ≡ 33 - length wait.came → length bytes ≤ most
    → new ≡ record wait { came = wait.came ++ take count piece } → new ≡ record wait { came = wait.came ++ bytes }
took_all wait new bytes piece count most same many room few is =
    let Came : List ℕ → Wait = λ came. record wait { came = wait.came ++ came } in
    let long : length piece ≡ length bytes = ap length same in
    let all : length piece ≤ count = omega (arith, many, room, few, long) in
    is ∙ ap Came (take_all count piece all ∙ same)

-- and then these went out
pub heard_then : {C : Type 0} (moved : C → C → List ℕ → List ℕ → Type 0) → More moved → (before mid after : C)
    (wait new : Wait) (went : List ℕ) → IsHeard moved before mid wait new [] → moved mid after [] went
    → IsHeard moved before after wait new went
heard_then {C} moved more before mid after wait new went heard sent =
    let Moved : List ℕ → Type 0 = λ came. moved before after came went in record {
      bytes = heard.bytes;
      moves = subst Moved (append-nil heard.bytes)
          (more before mid after heard.bytes [] [] went heard.moves sent);
      took = heard.took;
    }

-- which are the answer to what came
pub answered_with : {C : Type 0} (moved : C → C → List ℕ → List ℕ → Type 0) (before after : Asking C)
    (verdict : Verdict) (answer : ControlRecord) (cut : List ℕ → List ℕ)
    → answer ≡ answer_to verdict (hosts_in after.asker.came) → IsAsked moved before after (cut (control_bytes answer))
    → IsAsked moved before after (cut (answer_bytes verdict after.asker.came))
answered_with {C} moved before after verdict answer cut is asked =
    let Went : ControlRecord → Type 0 = λ its. IsAsked moved before after (cut (control_bytes its)) in
    subst Went is asked
