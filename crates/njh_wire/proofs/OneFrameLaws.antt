-- Bytes of which only the last may end a frame end one at most.
use Rattle.std.proofs.Common.{◌≡◌, ℕ, ◌+◌, ◌-◌, ◌<◌, ◌≤◌, Bool, false, true, ◌==◌, ◌||◌, if◌then◌else◌, List, [], ◌∷◌, ◌++◌, length, take, drop}
use Rattle.std.proofs.Common.{refl, ap, sym, ◌∙◌, subst, arith, length-append}
use Rattle.std.specs.Prelude.{Option, Some, None, All, slice_set}
use Rattle.std.specs.List.{cons_option}
use Rattle.std.proofs.lemmas.List.{take-append-drop, length-drop, take_more_set}
use Rattle.std.proofs.Math.Seq.{take-append_seam}
use Rattle.std.proofs.lemmas.List.Elements.{All-head, All-tail, All-push}
use Rattle.njh_bisync.specs.Frames.{Received}
use Rattle.njh_bisync.specs.Reading.{Rest, Nothing, AfterSoh, AfterDle, InText}
use Rattle.njh_bisync.specs.ByteSteps.{RestStep, rest_step, frames_after, rest_after}
use Rattle.njh_bisync.proofs.FedLaws.{frames_after-append}
use Rattle.njh_wire.specs.OneFrame.{may_end, EndsNone, IsOneFrame}

-- a byte that is none of the six
record EndsNothing (byte : ℕ) : Type 0 where
  enquiry : (byte == 0x2D) ≡ false
  ack0 : (byte == 0x70) ≡ false
  nak : (byte == 0x3D) ≡ false
  eot : (byte == 0x37) ≡ false
  etb : (byte == 0x26) ≡ false
  etx : (byte == 0x03) ≡ false

none_of_six : (a b c d e f : Bool) → (a || b || c || d || e || f) ≡ false
    → (a ≡ false) × (b ≡ false) × (c ≡ false) × (d ≡ false) × (e ≡ false) × (f ≡ false)
none_of_six false false false false false false is = (refl, refl, refl, refl, refl, refl)
none_of_six false false false false false true is = cc
none_of_six false false false false true f is = cc
none_of_six false false false true e f is = cc
none_of_six false false true d e f is = cc
none_of_six false true c d e f is = cc
none_of_six true b c d e f is = cc

ends_nothing : (byte : ℕ) → may_end byte ≡ false → EndsNothing byte
ends_nothing byte is =
    let each = none_of_six (byte == 0x2D) (byte == 0x70) (byte == 0x3D) (byte == 0x37) (byte == 0x26) (byte == 0x03) is in
    record {
      enquiry = each.0;
      ack0 = each.1;
      nak = each.2;
      eot = each.3;
      etb = each.4;
      etx = each.5;
    }

choose : (b : Bool) (x y : RestStep) → x.frame ≡ None → y.frame ≡ None → (if b then x else y).frame ≡ None
choose true x y first second = first
choose false x y first second = second

no_end : (rest : Rest) (byte : ℕ) → EndsNothing byte → (rest_step rest byte).frame ≡ None
unfolding rest_step
no_end Nothing byte is = rw (is.nak, is.eot) (choose (byte == 0x01) _ _ refl (choose (byte == 0x10) _ _ refl refl))
no_end AfterSoh byte is = rw is.enquiry refl
no_end AfterDle byte is = rw is.ack0 (choose (byte == 0x02) _ _ refl refl)
no_end (InText held false) byte is = choose (byte == 0x10) _ _ refl refl
no_end (InText held true) byte is = rw (is.etb, is.etx, is.enquiry)
    (choose (byte == 0x10) _ _ refl (choose (byte == 0x32) _ _ refl refl))

frames_none : (rest : Rest) (bytes : List ℕ) → All EndsNone bytes → frames_after rest bytes ≡ []
frames_none rest [] plain = refl
frames_none rest (byte ∷ bytes) plain =
    let later = frames_none (rest_step rest byte).rest bytes (All-tail EndsNone byte bytes plain) in
    ap (λ frame. cons_option frame (frames_after (rest_step rest byte).rest bytes))
    (no_end rest byte (ends_nothing byte (All-head EndsNone byte bytes plain))) ∙ later

-- one byte ends one frame at most
one_of : (frame : Option Received) → length (cons_option frame []) ≤ 1
one_of None = omega arith
one_of (Some frame) = omega arith

few_of : (rest : Rest) (bytes : List ℕ) → length bytes ≤ 1 → length (frames_after rest bytes) ≤ 1
few_of rest [] few = omega arith
few_of rest (byte ∷ []) few = one_of (rest_step rest byte).frame
few_of rest (byte ∷ next ∷ bytes) few = absurd (omega (arith, few))

pub one_at_most : (rest : Rest) (bytes : List ℕ) → IsOneFrame bytes → length (frames_after rest bytes) ≤ 1
one_at_most rest bytes plain =
    let n = length bytes - 1 in
    let front = take n bytes in
    let Few : List Received → Type 0 = λ frames. length frames ≤ 1 in
    let last : length (drop n bytes) ≤ 1 = omega (arith, length-drop n bytes) in
    let both : frames_after rest bytes ≡ frames_after (rest_after rest front) (drop n bytes) =
    ap (frames_after rest) (sym (take-append-drop n bytes)) ∙ (frames_after-append rest front (drop n bytes)
    ∙ ap (λ frames. frames ++ frames_after (rest_after rest front) (drop n bytes)) (frames_none rest front plain)) in
    subst Few (sym both) (few_of (rest_after rest front) (drop n bytes) last)

-- ---- bytes that are read one by one

-- bytes that end nothing, and then another that ends nothing
pub still_plain : (into : List ℕ) (count byte : ℕ) → count < length into
    → All EndsNone (take count into) → may_end byte ≡ false
    → All EndsNone (take (count + 1) (slice_set into count byte))
still_plain into count byte within plain ends =
    subst (All EndsNone) (sym (take_more_set into count byte within))
    (All-push EndsNone (take count into) byte plain ends)

-- or whatever byte
pub one_frame : (into : List ℕ) (count byte : ℕ) → count < length into
    → All EndsNone (take count into) → IsOneFrame (take (count + 1) (slice_set into count byte))
one_frame into count byte within plain =
    let front = take count into in
    let many : length (front ++ byte ∷ []) - 1 ≡ length front =
    omega (arith, length-append front (byte ∷ [])) in
    let fronts : take (length (front ++ byte ∷ []) - 1) (front ++ byte ∷ []) ≡ front =
    ap (λ n. take n (front ++ byte ∷ [])) many ∙ take-append_seam front (byte ∷ []) in
    subst IsOneFrame (sym (take_more_set into count byte within))
    (subst (All EndsNone) (sym fronts) plain)
