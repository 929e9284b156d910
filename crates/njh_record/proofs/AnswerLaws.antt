-- What unspell answers and leaves, by the relation.
use Rattle.std.proofs.Common.{◌≡◌, ℕ, ◌+◌, ◌-◌, inl, inr, cond, leb, List, [], ◌++◌, length, take, drop, Result, Ok}
use Rattle.std.proofs.Common.{Err, refl, sym, ◌∙◌, ap, arith, length-append, length-drop}
use Rattle.std.proofs.lemmas.Bool.{cases_lt, le-leb, lt-leb}
use Rattle.std.proofs.lemmas.List.{take_at, take-append-drop}
use Rattle.njh_record.specs.Bytes.{AreBytes}
use Rattle.njh_record.specs.declared.End.{End}
use Rattle.njh_record.specs.declared.End.TheVariants.{Record, Abort}
use Rattle.njh_record.specs.declared.RecordFault.{RecordFault}
use Rattle.njh_record.specs.declared.RecordFault.TheVariants as faults
use Rattle.njh_record.specs.Spelling.{Spelling}
use Rattle.njh_record.specs.Reading.{Begins, Unspells}
use Rattle.njh_record.specs.Unspelled.{Fault, BadScb, Truncated, Unspelled, record_at_front, ReadsAs}
use Rattle.njh_record.proofs.ReadingLaws.{found}
use Rattle.njh_record.proofs.ReadBack.{only}

-- ---- there is one

pub begins : (bytes spelling contents rest : List ℕ) (end : End) → Spelling spelling contents end
    → bytes ≡ spelling ++ rest
    → Begins bytes (length bytes - length rest) contents end
begins bytes spelling contents rest end spells parts =
    let size : length bytes ≡ length spelling + length rest = ap length parts ∙ length-append spelling rest in
    let front : take (length bytes - length rest) bytes ≡ spelling =
    ap (take (length bytes - length rest)) parts ∙ take_at spelling rest (length bytes - length rest) (omega arith) in
    record { within = omega arith; spelling = rw front spells }

abbrev pub Answered : List ℕ → Type 0
Answered bytes = (answer : Result (ℕ × End) RecordFault) × (contents : List ℕ) × Unspells bytes answer contents

answered-begins : (bytes contents : List ℕ) (end : End) (used : ℕ) → Begins bytes used contents end → Answered bytes
answered-begins bytes contents Record used starts =
    elim (cases_lt 256 (length contents)) [
      | inl long ↦ (Err (faults.TooLong used), [], ((contents, starts, long), refl))
      | inr fits ↦ (Ok (used, Record), contents, (starts, fits))
    ]
answered-begins bytes contents Abort used starts = (Ok (used, Abort), [], ((contents, starts), refl))

answered : (bytes : List ℕ) (read : Result Unspelled Fault) → ReadsAs bytes read → Answered bytes
answered bytes (Ok read) (spelling, spells, parts) =
    answered-begins bytes read.contents read.end _ (begins bytes spelling read.contents read.rest read.end spells parts)
answered bytes (Err BadScb) bad = (Err faults.BadScb, [], (bad, refl))
answered bytes (Err Truncated) cut = (Err faults.Truncated, [], (cut, refl))

pub some_answer : (bytes : List ℕ) → AreBytes bytes → Answered bytes
some_answer bytes are = answered bytes (record_at_front bytes) (found bytes are)

-- ---- and no other: each is made of what the function gives

abbrev Outcome : Type 0
Outcome = Result (ℕ × End) RecordFault × List ℕ

abbrev ended : ℕ → List ℕ → End → Outcome
ended used contents Record = cond (leb (length contents) 256) (Ok (used, Record), contents)
    (Err (faults.TooLong used), [])
ended used contents Abort = (Ok (used, Abort), [])

abbrev outcome : List ℕ → Result Unspelled Fault → Outcome
outcome bytes (Ok read) = ended (length bytes - length read.rest) read.contents read.end
outcome bytes (Err BadScb) = (Err faults.BadScb, [])
outcome bytes (Err Truncated) = (Err faults.Truncated, [])

outcome-begins : (bytes : List ℕ) (n : ℕ) (contents : List ℕ) (end : End) → Begins bytes n contents end
    → outcome bytes (record_at_front bytes) ≡ ended n contents end
outcome-begins bytes n contents end starts =
    let read : Result Unspelled Fault = Ok (record { contents = contents; end = end; rest = drop n bytes }) in
    let used : length bytes - length (drop n bytes) ≡ n = omega (arith, length-drop n bytes, starts.within) in
    ap (outcome bytes) (only bytes read (take n bytes, starts.spelling, sym (take-append-drop n bytes)))
    ∙ ap (λ (m : ℕ). ended m contents end) used

outcome_is : (bytes : List ℕ) (answer : Result (ℕ × End) RecordFault) (contents : List ℕ)
    → Unspells bytes answer contents
    → ◌≡◌ {A = Outcome} (outcome bytes (record_at_front bytes)) (answer, contents)
outcome_is bytes (Ok (n, Record)) contents (starts, fits) =
    rw (outcome-begins bytes n contents Record starts, le-leb (length contents) 256 fits) refl
outcome_is bytes (Ok (n, Abort)) contents ((given_up, starts), left) =
    rw (outcome-begins bytes n given_up Abort starts, left) refl
outcome_is bytes (Err faults.BadScb) contents (bad, left) =
    rw (only bytes (Err BadScb) bad, left) refl
outcome_is bytes (Err faults.Truncated) contents (cut, left) =
    rw (only bytes (Err Truncated) cut, left) refl
outcome_is bytes (Err (faults.TooLong n)) contents ((long, starts, over), left) =
    rw (outcome-begins bytes n long Record starts, lt-leb (length long) 256 over, left) refl

pub one_answer : (bytes : List ℕ) (answer other : Result (ℕ × End) RecordFault) (contents others : List ℕ)
    → Unspells bytes answer contents → Unspells bytes other others → (answer ≡ other) × (contents ≡ others)
one_answer bytes answer other contents others one two =
    let same : ◌≡◌ {A = Outcome} (answer, contents) (other, others) =
    sym (outcome_is bytes answer contents one) ∙ outcome_is bytes other others two in
    (ap (λ (o : Outcome). o.0) same, ap (λ (o : Outcome). o.1) same)
