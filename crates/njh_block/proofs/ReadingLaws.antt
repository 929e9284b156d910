-- The items of some bytes, a record at a time.
use Rattle.std.proofs.Common.{◌≡◌, ℕ, zero, suc, ◌<◌, ◌≤◌, Bool, true, false, cond, eqb, List, [], ◌∷◌, length, Option}
use Rattle.std.proofs.Common.{Some, None, Result, Ok, Err, refl, ◌∙◌, ap, arith}
use Rattle.std.proofs.lemmas.Bool.{false≢true}
use Rattle.std.specs.Result.{result_unwrap_or, IsOk}
use Rattle.njh_record.specs.Unspelled.{Unspelled, record_at_front, Fault}
use Rattle.njh_block.specs.declared.fault.BlockFault.{BlockFault}
use Rattle.njh_block.specs.declared.rcb.Form.{Form}
use Rattle.njh_block.specs.declared.rcb.Form.TheVariants as form
use Rattle.njh_block.specs.Blocks.{Item, First, form_of, after_control, record_of_spelling, record_of_one_byte}
use Rattle.njh_block.specs.Blocks.{record_of_form, first_record, with_item, read_items, items_in}
use Rattle.njh_block.proofs.Unspelling.{RestWithin, unspelled-within}

-- the items if the first record is this, and onward reads what follows it
abbrev pub items_from : Result (Option First) BlockFault → (List ℕ → Result (List Item) BlockFault)
    → Result (List Item) BlockFault
items_from found onward =
    elim found [
      | Ok first ↦ elim first [ None ↦ Ok [] | Some x ↦ with_item x.item (onward x.rest) ]
      | Err e ↦ Err e
    ]

-- ---- the fuel does not matter

-- what follows a record is shorter than n
abbrev pub Shorter : ℕ → Result (Option First) BlockFault → Type 0
Shorter n (Ok None) = Unit {0}
Shorter n (Ok (Some x)) = length x.rest < n
Shorter n (Err e) = Unit {0}

after_control-shorter : (rest : List ℕ) → length (after_control rest) ≤ length rest
after_control-shorter [] = omega arith
after_control-shorter (b ∷ []) = omega arith
after_control-shorter (b ∷ c ∷ rest) =
    elim (eqb b 0) as (λ (t : Bool). length (cond t (c ∷ rest) (b ∷ c ∷ rest)) ≤ suc (suc (length rest)))
    [ true ↦ omega arith | false ↦ omega arith ]

record_of_spelling-shorter : (rcb srcb n : ℕ) (found : Result Unspelled Fault) → RestWithin n found
    → Shorter (suc n) (record_of_spelling rcb srcb found)
record_of_spelling-shorter rcb srcb n (Ok r) within = omega arith
record_of_spelling-shorter rcb srcb n (Err e) within = tt

record_of_one_byte-shorter : (f : Form) (n : ℕ) → Shorter n (record_of_one_byte f)
record_of_one_byte-shorter form.End n = tt
record_of_one_byte-shorter form.Bad n = tt
record_of_one_byte-shorter form.General n = tt
record_of_one_byte-shorter (form.Control c) n = tt
record_of_one_byte-shorter form.Spelled n = tt

record_of_form-shorter : (f : Form) (rcb srcb : ℕ) (rest : List ℕ)
    → Shorter (suc (length rest)) (record_of_form f rcb srcb rest)
record_of_form-shorter form.End rcb srcb rest = tt
record_of_form-shorter form.Bad rcb srcb rest = tt
record_of_form-shorter form.General rcb srcb rest = omega arith
record_of_form-shorter (form.Control c) rcb srcb rest = omega (arith, after_control-shorter rest)
record_of_form-shorter form.Spelled rcb srcb rest =
    record_of_spelling-shorter rcb srcb (length rest) (record_at_front rest) (unspelled-within rest)

Shorter-more : (n : ℕ) (found : Result (Option First) BlockFault) → Shorter n found → Shorter (suc n) found
Shorter-more n (Ok None) shorter = tt
Shorter-more n (Ok (Some x)) shorter = omega arith
Shorter-more n (Err e) shorter = tt

pub first_record-shorter : (bytes : List ℕ) → Shorter (length bytes) (first_record bytes)
first_record-shorter [] = tt
first_record-shorter (rcb ∷ []) = record_of_one_byte-shorter (form_of rcb) 1
first_record-shorter (rcb ∷ srcb ∷ rest) =
    Shorter-more (suc (length rest)) (record_of_form (form_of rcb) rcb srcb rest)
    (record_of_form-shorter (form_of rcb) rcb srcb rest)

items_from-agree : (n : ℕ) (found : Result (Option First) BlockFault)
    (one other : List ℕ → Result (List Item) BlockFault)
    → Shorter n found → ((bytes : List ℕ) → length bytes < n → one bytes ≡ other bytes)
    → items_from found one ≡ items_from found other
items_from-agree n (Ok None) one other shorter agree = refl
items_from-agree n (Ok (Some x)) one other shorter agree = ap (with_item x.item) (agree x.rest shorter)
items_from-agree n (Err e) one other shorter agree = refl

read_items-enough : (k j : ℕ) (bytes : List ℕ) → length bytes ≤ k → length bytes ≤ j
    → read_items k bytes ≡ read_items j bytes
read_items-enough zero zero bytes p q = refl
read_items-enough zero (suc j) [] p q = refl
read_items-enough zero (suc j) (b ∷ rest) p q = absurd (omega arith)
read_items-enough (suc k) zero [] p q = refl
read_items-enough (suc k) zero (b ∷ rest) p q = absurd (omega arith)
read_items-enough (suc k) (suc j) bytes p q =
    items_from-agree (length bytes) (first_record bytes) (read_items k) (read_items j) (first_record-shorter bytes)
    (λ rest less. read_items-enough k j rest (omega arith) (omega arith))

pub items_in_step : (bytes : List ℕ) → items_in bytes ≡ items_from (first_record bytes) items_in
items_in_step [] = refl
items_in_step (b ∷ rest) =
    items_from-agree (length (b ∷ rest)) (first_record (b ∷ rest)) (read_items (length rest)) items_in
    (first_record-shorter (b ∷ rest))
    (λ bytes less. read_items-enough (length rest) (length bytes) bytes (omega arith) (omega arith))

-- ---- faults

abbrev pub fault_in : Result (List Item) BlockFault → Option BlockFault
fault_in (Ok items) = None
fault_in (Err e) = Some e

pub fault_in-with_item : (i : Item) (read : Result (List Item) BlockFault) → fault_in (with_item i read) ≡ fault_in read
fault_in-with_item i (Ok items) = refl
fault_in-with_item i (Err e) = refl

-- ---- what a record at the front leaves

-- the items, if they are whole
abbrev pub items_or_none : Result (List Item) BlockFault → List Item
items_or_none read = result_unwrap_or read []

took : (i : Item) (read all : Result (List Item) BlockFault) → all ≡ with_item i read → IsOk all
    → IsOk read × (items_or_none all ≡ i ∷ items_or_none read)
took i (Ok items) all is ok = (refl, ap items_or_none is)
took i (Err e) all is ok = absurd (false≢true (rw is at ok))

pub takes_first : (bytes rest : List ℕ) (i : Item) → first_record bytes ≡ Ok (Some (record { item = i; rest = rest }))
    → IsOk (items_in bytes)
    → IsOk (items_in rest) × (items_or_none (items_in bytes) ≡ i ∷ items_or_none (items_in rest))
takes_first bytes rest i is ok =
    took i (items_in rest) (items_in bytes)
    (items_in_step bytes ∙ ap (λ (f : Result (Option First) BlockFault). items_from f items_in) is) ok
