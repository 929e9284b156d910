-- The record at the front of some bytes, by the grammar.
use Rattle.std.proofs.Common.{◌≡◌, ℕ, suc, ◌<◌, ◌≤◌, eqb, leb, List, [], ◌∷◌, ◌++◌, length, Option, Some, None, Result}
use Rattle.std.proofs.Common.{Ok, Err, refl, sym, ◌∙◌, ap, arith, inl, inr}
use Rattle.std.proofs.lemmas.Bool.{cond_both, cond-true, cond-false, eqb-true, eqb-false, ne_eqb, leb-true, leb-false}
use Rattle.std.proofs.lemmas.Bool.{le-leb, lt-leb}
use Rattle.std.proofs.lemmas.List.{append-nil}
use Rattle.njh_record.specs.Bytes.{AreBytes}
use Rattle.njh_record.specs.Spelling.{Spelling}
use Rattle.njh_record.specs.Unspelled.{Unspelled, record_at_front, Fault, ReadsAs}
use Rattle.njh_record.specs.declared.End.{End}
use Rattle.njh_record.specs.declared.End.TheVariants.{Record, Abort}
use Rattle.njh_record.proofs.ReadBack.{unspelled-spelling}
use Rattle.njh_record.proofs.ReadingLaws.{found}
use Rattle.njh_block.specs.declared.fault.BlockFault.{BlockFault}
use Rattle.njh_block.specs.declared.fault.BlockFault.TheVariants.{TooShort, BadBcb, BadFcs, BadRcb, BadRecord}
use Rattle.njh_block.specs.declared.rcb.ControlRcb.{ControlRcb}
use Rattle.njh_block.specs.declared.rcb.Form.{Form}
use Rattle.njh_block.specs.declared.rcb.Form.TheVariants as form
use Rattle.njh_block.specs.Blocks.{Item, Data, Aborted, Long, Control, General, First, control_byte, form_of}
use Rattle.njh_block.specs.Blocks.{after_control, item_of, record_of_spelling, record_of_one_byte, record_of_form}
use Rattle.njh_block.specs.Blocks.{first_record}
use Rattle.njh_block.specs.Grammar.{IsSpelled, BeginsZeroAndMore, Covers, IsEnd, IsBadRcb}
use Rattle.njh_block.proofs.Forms.{FormFact, form_fact, form_of-control, high_control}

pub AreBytes-tail : (b : ℕ) (rest : List ℕ) → AreBytes (b ∷ rest) → AreBytes rest
AreBytes-tail b rest bytes = λ i. bytes (suc i)

pub AreBytes-drop : (front rest : List ℕ) → AreBytes (front ++ rest) → AreBytes rest
AreBytes-drop [] rest bytes = bytes
AreBytes-drop (b ∷ front) rest bytes = AreBytes-drop front rest (AreBytes-tail b (front ++ rest) bytes)

pub after_control-own : (after : List ℕ) → 0 < length after → after_control (0 ∷ after) ≡ after
after_control-own [] some = absurd (omega arith)
after_control-own (b ∷ after) some = refl

after_control-none : (after : List ℕ) → (BeginsZeroAndMore after → ⊥) → after_control after ≡ after
after_control-none [] none = refl
after_control-none (b ∷ []) none = refl
after_control-none (b ∷ c ∷ rest) none = cond-false (eqb b 0) (c ∷ rest) (b ∷ c ∷ rest) (ne_eqb b 0 none)

-- the first record of bytes that begin with an RCB of a known form
pub record_of_form-first : (f : Form) (rcb srcb : ℕ) (rest : List ℕ) → form_of rcb ≡ f
    → first_record (rcb ∷ srcb ∷ rest) ≡ record_of_form f rcb srcb rest
record_of_form-first f rcb srcb rest is = ap (λ (g : Form). record_of_form g rcb srcb rest) is

-- ---- from the reading to the grammar

-- what the first record says of the bytes
abbrev pub Stands : List ℕ → Result (Option First) BlockFault → Type 0
Stands bytes (Ok None) = IsEnd bytes
Stands bytes (Ok (Some x)) = (covered : List ℕ) × (bytes ≡ covered ++ x.rest) × Covers x.item covered x.rest
Stands bytes (Err BadRcb) = IsBadRcb bytes
Stands bytes (Err BadRecord) = (rcb : ℕ) × (rest : List ℕ) × (bytes ≡ rcb ∷ rest) × (0x80 ≤ rcb)
Stands bytes (Err TooShort) = ⊥
Stands bytes (Err BadBcb) = ⊥
Stands bytes (Err BadFcs) = ⊥

record_of_one_byte-stands : (f : Form) (rcb : ℕ) → FormFact f rcb → Stands (rcb ∷ []) (record_of_one_byte f)
record_of_one_byte-stands form.End rcb is = is
record_of_one_byte-stands form.Bad rcb is = is
record_of_one_byte-stands form.General rcb is = (rcb, [], refl, omega arith)
record_of_one_byte-stands (form.Control c) rcb is = (rcb, [], refl, omega (arith, is, high_control c))
record_of_one_byte-stands form.Spelled rcb is = (rcb, [], refl, is)

control-stands : (c : ControlRcb) (rcb srcb : ℕ) (rest : List ℕ) → rcb ≡ control_byte c
    → Stands (rcb ∷ srcb ∷ rest) (Ok (Some (record { item = Control rcb srcb; rest = after_control rest })))
control-stands c rcb srcb [] is = (rcb ∷ srcb ∷ [], refl, (c, is, inl (refl, λ h. h)))
control-stands c rcb srcb (b ∷ []) is = (rcb ∷ srcb ∷ [], refl, (c, is, inl (refl, λ h. h)))
control-stands c rcb srcb (b ∷ d ∷ rest) is =
    cond_both (eqb b 0) (d ∷ rest) (b ∷ d ∷ rest)
    (λ after. Stands (rcb ∷ srcb ∷ b ∷ d ∷ rest) (Ok (Some (record { item = Control rcb srcb; rest = after }))))
    (λ e. (
      rcb ∷ srcb ∷ 0 ∷ [],
      ap (λ (x : ℕ). rcb ∷ srcb ∷ x ∷ d ∷ rest) (eqb-true b 0 e),
      (c, is, inr (refl, omega arith)),
    ))
    (λ n. (rcb ∷ srcb ∷ [], refl, (c, is, inl (refl, λ h. eqb-false b 0 n h))))

item-covers : (rcb srcb : ℕ) (end : End) (contents rest spelling : List ℕ) → form_of rcb ≡ form.Spelled
    → Spelling spelling contents end
    → Covers (item_of rcb srcb (record { contents = contents; end = end; rest = rest })) (rcb ∷ srcb ∷ spelling) rest
item-covers rcb srcb Record contents rest spelling is s =
    let whole : IsSpelled rcb srcb contents Record (rcb ∷ srcb ∷ spelling) =
    record { form = is; spelling = spelling; parts = refl; spelled = s } in
    cond_both (leb (length contents) 256) (Data rcb srcb contents) (Long rcb srcb)
    (λ i. Covers i (rcb ∷ srcb ∷ spelling) rest)
    (λ e. (whole, leb-true _ _ e)) (λ n. (contents, whole, leb-false _ _ n))
item-covers rcb srcb Abort contents rest spelling is s =
    (contents, record { form = is; spelling = spelling; parts = refl; spelled = s })

record_of_spelling-stands : (rcb srcb : ℕ) (rest : List ℕ) (read : Result Unspelled Fault)
    → form_of rcb ≡ form.Spelled → 0x80 ≤ rcb
    → ReadsAs rest read → Stands (rcb ∷ srcb ∷ rest) (record_of_spelling rcb srcb read)
record_of_spelling-stands rcb srcb rest (Ok r) is high reads = (
  rcb ∷ srcb ∷ reads.0,
  ap
      (λ (bytes : List ℕ). rcb ∷ srcb ∷ bytes) reads.2,
  item-covers rcb srcb r.end r.contents r.rest reads.0 is reads.1,
)
record_of_spelling-stands rcb srcb rest (Err e) is high reads = (rcb, srcb ∷ rest, refl, high)

record_of_form-stands : (f : Form) (rcb srcb : ℕ) (rest : List ℕ) → form_of rcb ≡ f → FormFact f rcb → AreBytes rest
    → Stands (rcb ∷ srcb ∷ rest) (record_of_form f rcb srcb rest)
record_of_form-stands form.End rcb srcb rest is fact bytes = fact
record_of_form-stands form.Bad rcb srcb rest is fact bytes = fact
record_of_form-stands form.General rcb srcb rest is fact bytes =
    (0xf0 ∷ srcb ∷ rest, ap (λ (x : ℕ). x ∷ srcb ∷ rest) fact ∙ sym (append-nil (0xf0 ∷ srcb ∷ rest)), (refl, refl))
record_of_form-stands (form.Control c) rcb srcb rest is fact bytes = control-stands c rcb srcb rest fact
record_of_form-stands form.Spelled rcb srcb rest is fact bytes =
    record_of_spelling-stands rcb srcb rest (record_at_front rest) is fact (found rest bytes)

pub first_record-stands : (bytes : List ℕ) → AreBytes bytes → Stands bytes (first_record bytes)
first_record-stands [] bytes = tt
first_record-stands (rcb ∷ []) bytes = record_of_one_byte-stands (form_of rcb) rcb (form_fact rcb)
first_record-stands (rcb ∷ srcb ∷ rest) bytes =
    record_of_form-stands (form_of rcb) rcb srcb rest refl (form_fact rcb)
    (AreBytes-tail srcb rest (AreBytes-tail rcb (srcb ∷ rest) bytes))

-- ---- from the grammar to the reading

record_of_spelling-first : (rcb srcb : ℕ) (contents : List ℕ) (end : End) (bytes after : List ℕ)
    → IsSpelled rcb srcb contents end bytes
    → first_record (bytes ++ after)
    ≡ Ok (Some (record {
      item = item_of rcb srcb (record { contents = contents; end = end; rest = after });
      rest = after;
    }))
record_of_spelling-first rcb srcb contents end bytes after s =
    ap (λ (b : List ℕ). first_record (b ++ after)) s.parts
    ∙ (record_of_form-first form.Spelled rcb srcb (s.spelling ++ after) s.form
    ∙ ap (record_of_spelling rcb srcb) (unspelled-spelling s.spelling contents end after s.spelled))

pub Covers-first : (i : Item) (bytes after : List ℕ) → Covers i bytes after
    → first_record (bytes ++ after) ≡ Ok (Some (record { item = i; rest = after }))
Covers-first (Data rcb srcb contents) bytes after (s, short) =
    record_of_spelling-first rcb srcb contents Record bytes after s
    ∙ ap (λ (i : Item). Ok (Some (record { item = i; rest = after })))
    (cond-true (leb (length contents) 256) (Data rcb srcb contents) (Long rcb srcb) (le-leb _ _ short))
Covers-first (Long rcb srcb) bytes after (contents, s, long) =
    record_of_spelling-first rcb srcb contents Record bytes after s
    ∙ ap (λ (i : Item). Ok (Some (record { item = i; rest = after })))
    (cond-false (leb (length contents) 256) (Data rcb srcb contents) (Long rcb srcb) (lt-leb _ _ long))
Covers-first (Aborted rcb srcb) bytes after (contents, s) =
    record_of_spelling-first rcb srcb contents Abort bytes after s
Covers-first (Control rcb srcb) bytes after (c, is, inl (two, none)) =
    ap (λ (b : List ℕ). first_record (b ++ after)) two
    ∙ (record_of_form-first (form.Control c) rcb srcb after (ap form_of is ∙ form_of-control c)
    ∙ ap (λ (rest : List ℕ). Ok (Some (record { item = Control rcb srcb; rest = rest })))
    (after_control-none after none))
Covers-first (Control rcb srcb) bytes after (c, is, inr (three, some)) =
    ap (λ (b : List ℕ). first_record (b ++ after)) three
    ∙ (record_of_form-first (form.Control c) rcb srcb (0 ∷ after) (ap form_of is ∙ form_of-control c)
    ∙ ap (λ (rest : List ℕ). Ok (Some (record { item = Control rcb srcb; rest = rest })))
    (after_control-own after some))
Covers-first (General srcb rest) bytes after (is, none) =
    ap (λ (b : List ℕ). first_record (b ++ after)) is
    ∙ (ap (λ (b : List ℕ). first_record ((0xf0 ∷ srcb ∷ rest) ++ b)) none
    ∙ (ap (λ (b : List ℕ). Ok (Some (record { item = General srcb b; rest = [] }))) (append-nil rest)
    ∙ ap (λ (b : List ℕ). Ok (Some (record { item = General srcb rest; rest = b }))) (sym none)))
