-- A general record that comes first.
use Rattle.std.proofs.Common.{◌≡◌, ℕ, eqb, leb, List, [], ◌∷◌, length, Some, None, Result, Ok, Err, refl, sym, ◌∙◌, ap}
use Rattle.std.proofs.lemmas.Bool.{cond_both, cond-true, cond-false, eq-eqb, ne_eqb}
use Rattle.njh_record.specs.Unspelled.{Unspelled, record_at_front, Fault}
use Rattle.njh_record.specs.declared.End.{End}
use Rattle.njh_record.specs.declared.End.TheVariants.{Record, Abort}
use Rattle.njh_block.specs.declared.fault.BlockFault.{BlockFault}
use Rattle.njh_block.specs.declared.rcb.Form.{Form}
use Rattle.njh_block.specs.declared.rcb.Form.TheVariants as form
use Rattle.njh_block.specs.Blocks.{Item, Data, Aborted, Long, Control, General, form_of, after_control, item_of}
use Rattle.njh_block.specs.Blocks.{record_of_spelling, record_of_one_byte, record_of_form, with_item, items_in}
use Rattle.njh_block.specs.Blocks.{general_first}
use Rattle.njh_block.proofs.ReadingLaws.{items_from, items_in_step, items_or_none}
use Rattle.njh_block.specs.ItemViews.{general_at}
use Rattle.njh_block.proofs.Forms.{FormFact, form_fact}

general_at-other : (f : Form) (rcb srcb : ℕ) (rest : List ℕ) → form_of rcb ≡ f → (form.General ≡ f → ⊥)
    → None ≡ general_at (rcb ∷ srcb ∷ rest)
general_at-other f rcb srcb rest is other =
    sym (cond-false (eqb rcb 0xf0) (Some (srcb, rest)) None (ne_eqb rcb 0xf0 (λ e. other (sym (ap form_of e) ∙ is))))

general_first-other : (i : Item) (read : Result (List Item) BlockFault) → general_first (i ∷ []) ≡ None
    → general_first (items_or_none (with_item i read)) ≡ None
general_first-other i (Err e) other = refl
general_first-other (Data rcb srcb bytes) (Ok items) other = refl
general_first-other (Aborted rcb srcb) (Ok items) other = refl
general_first-other (Long rcb srcb) (Ok items) other = refl
general_first-other (Control rcb srcb) (Ok items) other = refl
general_first-other (General srcb rest) (Ok items) other = absurd cc

item_of-other : (rcb srcb : ℕ) (end : End) (contents rest : List ℕ)
    → general_first (item_of rcb srcb (record { contents = contents; end = end; rest = rest }) ∷ []) ≡ None
item_of-other rcb srcb Record contents rest =
    cond_both (leb (length contents) 256) (Data rcb srcb contents) (Long rcb srcb) (λ i. general_first (i ∷ []) ≡ None)
    (λ _. refl)
    (λ _. refl)
item_of-other rcb srcb Abort contents rest = refl

record_of_spelling-other : (rcb srcb : ℕ) (read : Result Unspelled Fault)
    (onward : List ℕ → Result (List Item) BlockFault)
    → general_first (items_or_none (items_from (record_of_spelling rcb srcb read) onward)) ≡ None
record_of_spelling-other rcb srcb (Ok r) onward =
    general_first-other (item_of rcb srcb r) (onward r.rest) (item_of-other rcb srcb r.end r.contents r.rest)
record_of_spelling-other rcb srcb (Err e) onward = refl

record_of_form-general : (f : Form) (rcb srcb : ℕ) (rest : List ℕ) → form_of rcb ≡ f → FormFact f rcb
    → general_first (items_or_none (items_from (record_of_form f rcb srcb rest) items_in))
    ≡ general_at (rcb ∷ srcb ∷ rest)
record_of_form-general form.End rcb srcb rest is fact = general_at-other form.End rcb srcb rest is (λ e. cc)
record_of_form-general form.Bad rcb srcb rest is fact = general_at-other form.Bad rcb srcb rest is (λ e. cc)
record_of_form-general form.General rcb srcb rest is fact =
    sym (cond-true (eqb rcb 0xf0) (Some (srcb, rest)) None (eq-eqb rcb 0xf0 fact))
record_of_form-general (form.Control c) rcb srcb rest is fact =
    general_first-other (Control rcb srcb) (items_in (after_control rest)) refl
    ∙ general_at-other (form.Control c) rcb srcb rest is (λ e. cc)
record_of_form-general form.Spelled rcb srcb rest is fact =
    record_of_spelling-other rcb srcb (record_at_front rest) items_in
    ∙ general_at-other form.Spelled rcb srcb rest is (λ e. cc)

record_of_one_byte-general : (f : Form) → general_first (items_or_none (items_from (record_of_one_byte f) items_in))
    ≡ None
record_of_one_byte-general form.End = refl
record_of_one_byte-general form.Bad = refl
record_of_one_byte-general form.General = refl
record_of_one_byte-general (form.Control c) = refl
record_of_one_byte-general form.Spelled = refl

-- the first byte says whether the first item is a general one
pub general_first_in : (bytes : List ℕ) → general_first (items_or_none (items_in bytes)) ≡ general_at bytes
general_first_in [] = refl
general_first_in (rcb ∷ []) =
    ap (λ (r : Result (List Item) BlockFault). general_first (items_or_none r)) (items_in_step (rcb ∷ []))
    ∙ record_of_one_byte-general (form_of rcb)
general_first_in (rcb ∷ srcb ∷ rest) =
    ap (λ (r : Result (List Item) BlockFault). general_first (items_or_none r)) (items_in_step (rcb ∷ srcb ∷ rest))
    ∙ record_of_form-general (form_of rcb) rcb srcb rest refl (form_fact rcb)
