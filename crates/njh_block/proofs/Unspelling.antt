-- What an unspelling leaves of the bytes, and what an answer of the reader of records says.
use Rattle.std.proofs.Common.{◌≡◌, ℕ, zero, suc, ◌-◌, ◌≤◌, Bool, true, false, eqb, leb, ltb, List, [], ◌∷◌}
use Rattle.std.proofs.Common.{length, take, drop, cond, Option, Some, Result, Ok, Err, refl, sym, ◌∙◌, ap, length-drop}
use Rattle.std.proofs.Common.{arith}
use Rattle.std.proofs.lemmas.Bool.{le-leb, lt-leb}
use Rattle.std.proofs.lemmas.List.{take-append-drop}
use Rattle.njh_record.specs.declared.End.{End}
use Rattle.njh_record.specs.declared.End.TheVariants.{Record, Abort}
use Rattle.njh_record.specs.declared.RecordFault.{RecordFault}
use Rattle.njh_record.specs.declared.RecordFault.TheVariants as faults
use Rattle.njh_record.specs.Spelling.{blanks, literal, added_bytes}
use Rattle.njh_record.specs.Reading.{Begins, Unspells}
use Rattle.njh_record.specs.Unspelled.{Front, OfItem, OfEnd, Bad, Cut, repeat_front, literal_front, front_of, Unspelled}
use Rattle.njh_record.specs.Unspelled.{record_at_front, unspelled_within, Fault, BadScb, Truncated, with_front}
use Rattle.njh_record.proofs.ReadBack.{only, unspelled-spelling}
use Rattle.njh_block.specs.declared.fault.BlockFault.{BlockFault}
use Rattle.njh_block.specs.declared.fault.BlockFault.TheVariants.{BadRecord}
use Rattle.njh_block.specs.Blocks.{First, Data, Aborted, Long, record_of_spelling}
use Rattle.njh_block.specs.ItemViews.{contents_after}

-- ---- it leaves no more than there was

abbrev FrontWithin : ℕ → Front → Type 0
FrontWithin n (OfItem item rest) = length rest ≤ n
FrontWithin n (OfEnd end rest) = length rest ≤ n
FrontWithin n Bad = Unit {0}
FrontWithin n Cut = Unit {0}

either-within : (t : Bool) (n : ℕ) (one other : Front) → FrontWithin n one → FrontWithin n other
    → FrontWithin n (cond t one other)
either-within true n one other within others = within
either-within false n one other within others = others

repeat-within : (n : ℕ) (rest : List ℕ) → FrontWithin (length rest) (repeat_front n rest)
repeat-within n [] = tt
repeat-within n (byte ∷ rest) = omega arith

literal-within : (n : ℕ) (rest : List ℕ) → FrontWithin (length rest) (literal_front n rest)
literal-within n rest =
    either-within (leb n (length rest)) (length rest) (OfItem (literal (take n rest)) (drop n rest)) Cut
    (omega (arith, length-drop n rest)) tt

counted-within : (b : ℕ) (rest : List ℕ)
    → FrontWithin (length rest)
    (cond (ltb b 0xA0) (OfItem (blanks (b - 0x80)) rest)
    (cond (ltb b 0xC0) (repeat_front (b - 0xA0) rest) (literal_front (b - 0xC0) rest)))
counted-within b rest =
    either-within (ltb b 0xA0) (length rest) (OfItem (blanks (b - 0x80)) rest)
    (cond (ltb b 0xC0) (repeat_front (b - 0xA0) rest) (literal_front (b - 0xC0) rest)) (omega arith)
    (either-within (ltb b 0xC0) (length rest) (repeat_front (b - 0xA0) rest) (literal_front (b - 0xC0) rest)
    (repeat-within (b - 0xA0) rest) (literal-within (b - 0xC0) rest))

front-within : (b : ℕ) (rest : List ℕ) → FrontWithin (length rest) (front_of (b ∷ rest))
front-within b rest =
    either-within (eqb b 0x00) (length rest) _ _ (omega arith)
    (either-within (eqb b 0x40) (length rest) _ _ (omega arith)
    (either-within (ltb b 0x80) (length rest) _ _ tt (counted-within b rest)))

abbrev pub RestWithin : ℕ → Result Unspelled Fault → Type 0
RestWithin n (Ok r) = length r.rest ≤ n
RestWithin n (Err e) = Unit {0}

with_front-within : (n m : ℕ) (front : List ℕ) (read : Result Unspelled Fault) → n ≤ m → RestWithin n read
    → RestWithin m (with_front front read)
with_front-within n m front (Ok r) le within = omega arith
with_front-within n m front (Err e) le within = tt

within_steps : (k : ℕ) (bytes : List ℕ) → RestWithin (length bytes) (unspelled_within k bytes)
within_steps zero bytes = tt
within_steps (suc k) [] = tt
within_steps (suc k) (b ∷ rest) = go (front_of (b ∷ rest)) (front-within b rest) (within_steps k)
  where
    go : (front : Front) → FrontWithin (length rest) front
        → ((after : List ℕ) → RestWithin (length after) (unspelled_within k after))
        → RestWithin (suc (length rest))
        (elim front [
          | OfItem item after ↦ with_front (added_bytes item) (unspelled_within k after)
          | OfEnd end after ↦ Ok
              (record { contents = []; end = end; rest = after })
          | Bad ↦ Err BadScb
          | Cut ↦ Err Truncated
        ])
    go (OfItem item after) within again =
        with_front-within (length after) (suc (length rest)) (added_bytes item) (unspelled_within k after) (omega arith)
        (again after)
    go (OfEnd end after) within again = omega arith
    go Bad within again = tt
    go Cut within again = tt

pub unspelled-within : (bytes : List ℕ) → RestWithin (length bytes) (record_at_front bytes)
unspelled-within bytes = within_steps (length bytes) bytes

-- ---- what an answer of the reader of records says

-- the record of a block that an answer makes, if it leaves these contents
abbrev pub answered : ℕ → ℕ → List ℕ → List ℕ → Result (ℕ × End) RecordFault → Result (Option First) BlockFault
answered rcb srcb bytes contents (Ok (used, Record)) =
    Ok (Some (record { item = Data rcb srcb contents; rest = drop used bytes }))
answered rcb srcb bytes contents (Ok (used, Abort)) =
    Ok (Some (record { item = Aborted rcb srcb; rest = drop used bytes }))
answered rcb srcb bytes contents (Err (faults.TooLong used)) =
    Ok (Some (record { item = Long rcb srcb; rest = drop used bytes }))
answered rcb srcb bytes contents (Err faults.BadScb) = Err BadRecord
answered rcb srcb bytes contents (Err faults.Truncated) = Err BadRecord

begins-spelled : (rcb srcb : ℕ) (bytes contents : List ℕ) (used : ℕ) (end : End) → Begins bytes used contents end
    → record_of_spelling rcb srcb (record_at_front bytes)
    ≡ record_of_spelling rcb srcb (Ok (record { contents = contents; end = end; rest = drop used bytes }))
begins-spelled rcb srcb bytes contents used end begins =
    ap (λ (b : List ℕ). record_of_spelling rcb srcb (record_at_front b)) (sym (take-append-drop used bytes))
    ∙ ap (record_of_spelling rcb srcb)
    (unspelled-spelling (take used bytes) contents end (drop used bytes) begins.spelling)

pub record_of_spelling-unspells : (rcb srcb : ℕ) (bytes contents : List ℕ) (answer : Result (ℕ × End) RecordFault)
    → Unspells bytes answer contents → record_of_spelling rcb srcb (record_at_front bytes) ≡ answered rcb srcb bytes
    contents answer
record_of_spelling-unspells rcb srcb bytes contents (Ok (used, Record)) (begins, fits) =
    begins-spelled rcb srcb bytes contents used Record begins
    ∙ ap (λ (t : Bool). Ok (Some (record
    { item = cond t (Data rcb srcb contents) (Long rcb srcb); rest = drop used bytes })))
    (le-leb (length contents) 256 fits)
record_of_spelling-unspells rcb srcb bytes contents (Ok (used, Abort)) ((given_up, begins), none) =
    begins-spelled rcb srcb bytes given_up used Abort begins
record_of_spelling-unspells rcb srcb bytes contents (Err (faults.TooLong used)) ((long, begins, over), none) =
    begins-spelled rcb srcb bytes long used Record begins
    ∙ ap (λ (t : Bool). Ok (Some (record
    { item = cond t (Data rcb srcb long) (Long rcb srcb); rest = drop used bytes })))
    (lt-leb (length long) 256 over)
record_of_spelling-unspells rcb srcb bytes contents (Err faults.BadScb) (bad, none) =
    ap (record_of_spelling rcb srcb) (only bytes (Err BadScb) bad)
record_of_spelling-unspells rcb srcb bytes contents (Err faults.Truncated) (cut, none) =
    ap (record_of_spelling rcb srcb) (only bytes (Err Truncated) cut)

pub record_of_spelling-left : (rcb srcb : ℕ) (bytes contents : List ℕ) (answer : Result (ℕ × End) RecordFault)
    → Unspells bytes answer contents → contents ≡ contents_after (record_of_spelling rcb srcb (record_at_front bytes))
record_of_spelling-left rcb srcb bytes contents answer unspells =
    left answer unspells ∙ ap contents_after
    (sym (record_of_spelling-unspells rcb srcb bytes contents answer unspells))
  where
    left : (answer : Result (ℕ × End) RecordFault) → Unspells bytes answer contents
        → contents ≡ contents_after (answered rcb srcb bytes contents answer)
    left (Ok (used, Record)) unspells = refl
    left (Ok (used, Abort)) unspells = unspells.1
    left (Err (faults.TooLong used)) unspells = unspells.1
    left (Err faults.BadScb) unspells = unspells.1
    left (Err faults.Truncated) unspells = unspells.1
