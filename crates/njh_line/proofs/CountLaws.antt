-- The count rule: what repeats, and which counts are taken.
use Rattle.std.proofs.Common.{◌≡◌, ℕ, ◌+◌, ◌%◌, Bool, true, false, Option, Some, None, cond, ◌==◌, ◌||◌, refl, ap}
use Rattle.std.proofs.Common.{arith, eq-eqb}
use Rattle.std.proofs.lemmas.Bool.{eqb-true, ne_eqb}
use Rattle.njh_line.specs.declared.counts.Counted.TheVariants.{Acts, Repeats, OutOfSequence}
use Rattle.njh_line.specs.Counts.{bcb_count, bcb_type, count_verdict, is_repeat, is_taken}

-- a Bool isn't both
pub clash : {A : Type 0} (b : Bool) → b ≡ true → b ≡ false → A
clash true e f = absurd (cc)
clash false e f = absurd (cc)

-- of the tests of the count rule, the second says what repeats
repeats : (unchecked repeat set taken : Bool)
    → cond unchecked Acts (cond repeat Repeats (cond set Acts (cond taken Acts OutOfSequence))) ≡ Repeats
    → repeat ≡ true
repeats true repeat set taken e = absurd (cc)
repeats false true set taken e = refl
repeats false false true taken e = absurd (cc)
repeats false false false true e = absurd (cc)
repeats false false false false e = absurd (cc)

is_the_last : (last_bcb : Option ℕ) (bcb : ℕ) → is_repeat last_bcb bcb ≡ true → last_bcb ≡ Some bcb
is_the_last None bcb e = clash false e refl
is_the_last (Some b) bcb e = ap Some (eqb-true b bcb e)

pub same : (last_bcb : Option ℕ) (bcb : ℕ) → count_verdict last_bcb bcb ≡ Repeats → last_bcb ≡ Some bcb
same last_bcb bcb e = is_the_last last_bcb bcb (repeats _ _ _ _ e)

repeated : (unchecked repeat set taken : Bool) → unchecked ≡ false → repeat ≡ true
    → cond unchecked Acts (cond repeat Repeats (cond set Acts (cond taken Acts OutOfSequence))) ≡ Repeats
repeated true repeat set taken e f = clash true refl e
repeated false true set taken e f = refl
repeated false false set taken e f = clash false f refl

pub always : (bcb : ℕ) → (bcb_type bcb == 1) ≡ false → count_verdict (Some bcb) bcb ≡ Repeats
always bcb e = repeated (bcb_type bcb == 1) (bcb == bcb) _ _ e (eq-eqb bcb bcb refl)

cond-true : (b x y : Bool) → b ≡ true → cond b x y ≡ x
cond-true true x y e = refl
cond-true false x y e = clash false e refl

cond-false : (b x y : Bool) → b ≡ false → cond b x y ≡ y
cond-false true x y e = clash true refl e
cond-false false x y e = refl

pub set : (bcb k : ℕ) → bcb_type bcb ≡ 2
    → is_taken (Some bcb) k ≡ ((k == bcb_count bcb) || (k == (bcb_count bcb + 1) % 16))
set bcb k e = cond-true (bcb_type bcb == 2) _ _ (eq-eqb (bcb_type bcb) 2 e)

pub checked : (bcb k : ℕ) → bcb_type bcb ≡ 0 → is_taken (Some bcb) k ≡ (k == (bcb_count bcb + 1) % 16)
checked bcb k e = cond-false (bcb_type bcb == 2) _ _ (ne_eqb (bcb_type bcb) 2 (λ f. omega arith))
