-- How many records with data a block has at most: each takes three bytes of its text at least.
use Rattle.njh_customer.proofs.Words
use Words.{cond_both, ℕ, zero, suc, cond, nat_le, List, [], length, Option, Some, None, Result, Ok, Err, arith, ap}
use Words.{front_leaves_less, by_steps, read_on, added_bytes, Front, OfItem, OfEnd, Bad, Cut, Fault, Unspelled}
use Words.{with_front, record_at_front, StandsFirst, End, Record, Item, Aborted, form_of, after_control, item_of, First}
use Words.{record_of_spelling, record_of_one_byte, record_of_form, first_record, with_item, read_items, items_in}
use Words.{is_bcb, is_fcs, block_with, read_block, BlockFault, BadBcb, BadFcs, Form}
use Rattle.{std.proofs.Common.{◌+◌, ◌*◌, ◌<◌, ◌≤◌, ◌==◌, ◌∷◌}, njh_record.specs.declared.End.TheVariants.Abort}
use Rattle.{njh_block.specs.Blocks.{Data, Long, Block}, njh_customer.proofs.GrowingLaws.{data_in, data_count}}
use Rattle.njh_block.specs.declared.rcb.Form.TheVariants as form

-- ---- a spelling leaves less than there was

abbrev LeavesLess : List ℕ → Result Unspelled Fault → Type 0
LeavesLess bytes (Ok r) = length r.rest < length bytes
LeavesLess bytes (Err e) = Unit {0}

then_leaves : (front bytes rest : List ℕ) (r : Result Unspelled Fault) → length rest < length bytes
    → LeavesLess rest r → LeavesLess bytes (with_front front r)
then_leaves front bytes rest (Ok r) less leaves = omega arith
then_leaves front bytes rest (Err e) less leaves = tt

step_leaves : (bytes : List ℕ) (front : Front) → StandsFirst bytes front
    → ((rest : List ℕ) → length rest < length bytes → LeavesLess rest (record_at_front rest))
    → LeavesLess bytes (read_on record_at_front front)
step_leaves bytes (OfItem item rest) (counted, parts) again =
    let less = front_leaves_less bytes rest item parts in
    then_leaves (added_bytes item) bytes rest (record_at_front rest) less (again rest less)
step_leaves bytes (OfEnd end rest) parts again = omega (arith, ap (λ (bs : List ℕ). length bs) parts)
step_leaves bytes Bad bad again = tt
step_leaves bytes Cut cut again = tt

-- ---- a record takes three bytes where it has data

abbrev TakesEnough : ℕ → Result (Option First) BlockFault → Type 0
TakesEnough n (Ok None) = Unit {0}
TakesEnough n (Ok (Some x)) = 3 * data_in x.item + length x.rest ≤ n
TakesEnough n (Err e) = Unit {0}

one_item : (rcb srcb : ℕ) (r : Unspelled) → data_in (item_of rcb srcb r) ≤ 1
one_item rcb srcb r = at_end r.end
  where
    at_end : (e : End) → data_in (elim e [
      | Record ↦ cond (nat_le (length r.contents) 256) (Data rcb srcb r.contents) (Long rcb srcb)
      | Abort ↦ Aborted rcb srcb
    ]) ≤ 1
    at_end Record = cond_both (nat_le (length r.contents) 256) (Data rcb srcb r.contents) (Long rcb srcb)
        (λ i. data_in i ≤ 1) (λ _. omega arith) (λ _. omega arith)
    at_end Abort = omega arith

spelled_takes : (rcb srcb : ℕ) (bytes : List ℕ) (r : Result Unspelled Fault) → LeavesLess bytes r
    → TakesEnough (suc (suc (length bytes))) (record_of_spelling rcb srcb r)
spelled_takes rcb srcb bytes (Ok r) less = omega (arith, one_item rcb srcb r)
spelled_takes rcb srcb bytes (Err e) less = tt

control_leaves : (rest : List ℕ) → length (after_control rest) ≤ length rest
control_leaves [] = omega arith
control_leaves (b ∷ []) = omega arith
control_leaves (b ∷ c ∷ rest) = cond_both (b == 0) (c ∷ rest) (b ∷ c ∷ rest)
    (λ bs. length bs ≤ length (b ∷ c ∷ rest)) (λ _. omega arith) (λ _. omega arith)

form_takes : (f : Form) (rcb srcb : ℕ) (rest : List ℕ) → TakesEnough (suc (suc (length rest)))
    (record_of_form f rcb srcb rest)
form_takes form.End rcb srcb rest = tt
form_takes form.Bad rcb srcb rest = tt
form_takes form.General rcb srcb rest = omega arith
form_takes (form.Control c) rcb srcb rest = omega (arith, control_leaves rest)
form_takes form.Spelled rcb srcb rest =
    spelled_takes rcb srcb rest (record_at_front rest) (by_steps LeavesLess step_leaves rest)

one_byte_takes : (f : Form) → TakesEnough 1 (record_of_one_byte f)
one_byte_takes form.End = tt
one_byte_takes _ = tt

first_takes : (bytes : List ℕ) → TakesEnough (length bytes) (first_record bytes)
first_takes [] = tt
first_takes (rcb ∷ []) = one_byte_takes (form_of rcb)
first_takes (rcb ∷ srcb ∷ rest) = form_takes (form_of rcb) rcb srcb rest

-- ---- all of them

abbrev AreFew : ℕ → Result (List Item) BlockFault → Type 0
AreFew n (Ok items) = 3 * data_count items ≤ n
AreFew n (Err e) = Unit {0}

one_more_few : (i : Item) (m n : ℕ) (r : Result (List Item) BlockFault) → 3 * data_in i + m ≤ n → AreFew m r
    → AreFew n (with_item i r)
one_more_few i m n (Ok items) less few = omega arith
one_more_few i m n (Err e) less few = tt

items_few : (k : ℕ) (bytes : List ℕ) → AreFew (length bytes) (read_items k bytes)
items_few zero bytes = omega arith
items_few (suc k) bytes = at_first (first_record bytes) (first_takes bytes) (λ rest. items_few k rest)
  where
    at_first : (r : Result (Option First) BlockFault) → TakesEnough (length bytes) r
        → ((rest : List ℕ) → AreFew (length rest) (read_items k rest)) → AreFew (length bytes) (elim r [
          | Ok first ↦ elim first [ None ↦ Ok [] | Some x ↦ with_item x.item (read_items k x.rest) ]
          | Err e ↦ Err e
        ])
    at_first (Ok None) takes later = omega arith
    at_first (Ok (Some x)) takes later =
        one_more_few x.item (length x.rest) (length bytes) (read_items k x.rest) takes (later x.rest)
    at_first (Err e) takes later = tt

abbrev pub BlockIsFew : ℕ → Result Block BlockFault → Type 0
BlockIsFew n (Ok b) = 3 * data_count b.items ≤ n
BlockIsFew n (Err e) = Unit {0}

with_few : (bcb : ℕ) (fcs : ℕ × ℕ) (m n : ℕ) (r : Result (List Item) BlockFault) → m ≤ n → AreFew m r
    → BlockIsFew n (block_with bcb fcs r)
with_few bcb fcs m n (Ok items) less few = omega arith
with_few bcb fcs m n (Err e) less few = tt

pub block_few : (text : List ℕ) → BlockIsFew (length text) (read_block text)
block_few [] = tt
block_few (b ∷ []) = tt
block_few (b ∷ f ∷ []) = tt
block_few (b ∷ f ∷ g ∷ rest) =
    let n = length (b ∷ f ∷ g ∷ rest) in
    let found = block_with b (f, g) (items_in rest) in
    cond_both (is_bcb b) (cond (is_fcs (f, g)) found (Err BadFcs)) (Err BadBcb) (BlockIsFew n)
    (λ _. cond_both (is_fcs (f, g)) found (Err BadFcs) (BlockIsFew n)
    (λ _. with_few b (f, g) (length rest) n (items_in rest) (omega arith) (items_few (length rest) rest)) (λ _. tt))
    (λ _. tt)
