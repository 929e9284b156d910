-- What a byte in the place of an RCB is.
use Rattle.std.proofs.Common.{◌≡◌, ℕ, ◌<◌, ◌≤◌, eqb, ltb, refl, ◌∙◌, arith}
use Rattle.std.proofs.lemmas.Bool.{cond_both, cond-true, cond-false, eqb-true, eqb-false, ne_eqb, ltb-true, ltb-false}
use Rattle.std.proofs.lemmas.Bool.{lt-ltb}
use Rattle.njh_block.specs.declared.rcb.ControlRcb.{ControlRcb}
use Rattle.njh_block.specs.declared.rcb.ControlRcb.TheVariants.{Request, Permission, Refusal, Completion, Ready}
use Rattle.njh_block.specs.declared.rcb.ControlRcb.TheVariants.{SequenceError}
use Rattle.njh_block.specs.declared.rcb.Form.{Form}
use Rattle.njh_block.specs.declared.rcb.Form.TheVariants as form
use Rattle.njh_block.specs.Blocks.{control_byte, control_or_spelled, form_of}

abbrev pub FormFact : Form → ℕ → Type 0
FormFact form.End rcb = rcb ≡ 0
FormFact form.Bad rcb = (0 < rcb) × (rcb < 0x80)
FormFact form.General rcb = rcb ≡ 0xf0
FormFact (form.Control c) rcb = rcb ≡ control_byte c
FormFact form.Spelled rcb = 0x80 ≤ rcb

control_fact : (rcb : ℕ) → 0x80 ≤ rcb → FormFact (control_or_spelled rcb) rcb
control_fact rcb high =
    let Fact : Form → Type 0 = λ f. FormFact f rcb in
    cond_both (eqb rcb 0x90) (form.Control Request) _ Fact (eqb-true rcb 0x90) (λ _.
    cond_both (eqb rcb 0xa0) (form.Control Permission) _ Fact (eqb-true rcb 0xa0) (λ _.
    cond_both (eqb rcb 0xb0) (form.Control Refusal) _ Fact (eqb-true rcb 0xb0) (λ _.
    cond_both (eqb rcb 0xc0) (form.Control Completion) _ Fact (eqb-true rcb 0xc0) (λ _.
    cond_both (eqb rcb 0xd0) (form.Control Ready) _ Fact (eqb-true rcb 0xd0) (λ _.
    cond_both (eqb rcb 0xe0) (form.Control SequenceError) form.Spelled Fact (eqb-true rcb 0xe0) (λ _. high))))))

pub form_fact : (rcb : ℕ) → FormFact (form_of rcb) rcb
form_fact rcb =
    let Fact : Form → Type 0 = λ f. FormFact f rcb in
    cond_both (eqb rcb 0) form.End _ Fact (eqb-true rcb 0) (λ n.
    cond_both (ltb rcb 0x80) form.Bad _ Fact (λ e. (omega (arith, eqb-false rcb 0 n), ltb-true rcb 0x80 e)) (λ m.
    cond_both (eqb rcb 0xf0) form.General (control_or_spelled rcb) Fact (eqb-true rcb 0xf0)
    (λ _. control_fact rcb (ltb-false rcb 0x80 m))))

-- a control record's byte is of its form
pub form_of-control : (c : ControlRcb) → form_of (control_byte c) ≡ form.Control c
form_of-control Request = refl
form_of-control Permission = refl
form_of-control Refusal = refl
form_of-control Completion = refl
form_of-control Ready = refl
form_of-control SequenceError = refl

-- and so at least 80
pub high_control : (c : ControlRcb) → 0x80 ≤ control_byte c
high_control Request = omega arith
high_control Permission = omega arith
high_control Refusal = omega arith
high_control Completion = omega arith
high_control Ready = omega arith
high_control SequenceError = omega arith

pub form_of-bad : (rcb : ℕ) → 0 < rcb → rcb < 0x80 → form_of rcb ≡ form.Bad
form_of-bad rcb above below =
    cond-false (eqb rcb 0) _ _ (ne_eqb rcb 0 (λ e. omega arith)) ∙ cond-true (ltb rcb 0x80) _ _ (lt-ltb rcb 0x80 below)
