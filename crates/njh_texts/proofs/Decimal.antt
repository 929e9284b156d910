-- The digits that are written of a number say it, and begin with no zero but where it is the only one.
use Rattle.std.proofs.Common.{◌≡◌, ℕ, zero, suc, ◌+◌, ◌-◌, ◌*◌, ◌/◌, ◌%◌, ◌^◌, ◌<◌, ◌≤◌, ◌⊎◌, inl, inr, List, [], ◌∷◌}
use Rattle.std.proofs.Common.{◌++◌, refl, sym, ◌∙◌, ap, subst, arith}
use Rattle.std.specs.List.{AllByRecursion}
use Rattle.std.proofs.lemmas.Bool.{cases_lt}
use Rattle.njh_ebcdic.specs.Names.{digits}
use Rattle.njh_texts.specs.Decimals.{IsDigit, value_behind, decimal_value, IsDecimal}
use Rattle.njh_texts.proofs.Digits.{digits-last, digits-one}

all_last : (ds : List ℕ) (d : ℕ) → AllByRecursion IsDigit ds → IsDigit d → AllByRecursion IsDigit (ds ++ d ∷ [])
all_last [] d all is = (is, tt)
all_last (e ∷ ds) d all is = (all.0, all_last ds d all.1 is)

value-last : (higher : ℕ) (ds : List ℕ) (d : ℕ)
    → value_behind higher (ds ++ d ∷ []) ≡ 10 * value_behind higher ds + (d - 0xf0)
value-last higher [] d = refl
value-last higher (e ∷ ds) d = value-last (10 * higher + (e - 0xf0)) ds d

one : (n : ℕ) → n < 10 → IsDecimal ((n + 0xf0) ∷ []) n
one n small =
    record {
      some = omega arith;
      each = ((omega arith, omega arith), tt);
      value = omega arith;
      shortest = λ is. ap (λ (d : ℕ). d ∷ []) is;
    }

one_more : (ds : List ℕ) (m d n : ℕ) → IsDecimal ds m → 0 < m → d < 10 → 10 * m + d ≡ n
    → IsDecimal (ds ++ (d + 0xf0) ∷ []) n
one_more [] m d n is above small sum = absurd (omega (arith, is.some))
one_more (e ∷ ds) m d n is above small sum =
    record {
      some = omega arith;
      each = all_last (e ∷ ds) (d + 0xf0) is.each (omega arith, omega arith);
      value = value-last 0 (e ∷ ds) (d + 0xf0) ∙ omega (arith, is.value);
      shortest = λ zero. absurd (omega (arith, is.value, ap decimal_value (is.shortest zero)));
    }

decimal_within : (k n : ℕ) → n ≤ k → n < 2 ^ 32 → (n < 10) ⊎ (10 ≤ n) → IsDecimal (digits n) n
decimal_within k n within fits (inl small) =
    subst (λ (ds : List ℕ). IsDecimal ds n) (sym (digits-one n small)) (one n small)
decimal_within zero n within fits (inr large) = absurd (omega arith)
decimal_within (suc k) n within fits (inr large) =
    subst (λ (ds : List ℕ). IsDecimal ds n) (sym (digits-last n fits large))
    (one_more (digits (n / 10)) (n / 10) (n % 10) n
    (decimal_within k (n / 10) (omega arith) (omega arith) (cases_lt (n / 10) 10))
    (omega arith) (omega arith) (omega arith))

pub digits_say : (n : ℕ) → n < 2 ^ 32 → IsDecimal (digits n) n
digits_say n fits = decimal_within n n (omega arith) fits (cases_lt n 10)
