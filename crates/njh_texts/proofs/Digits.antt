-- Decimal digits.
use Rattle.std.proofs.Common.{◌≡◌, ℕ, zero, suc, ◌+◌, ◌/◌, ◌%◌, ◌^◌, ◌<◌, ◌≤◌, ◌⊎◌, inl, inr, Bool, true, false, List}
use Rattle.std.proofs.Common.{[], ◌∷◌, ◌++◌, length, sym, ◌∙◌, ap, arith, length-append}
use Rattle.std.proofs.Math.Nat.{pow-suc}
use Rattle.std.proofs.lemmas.Bool.{lt-ltb, le-ltb, cases_lt}
use Rattle.njh_ebcdic.specs.Names.{digits, digits_within}

either_way : (k n : ℕ) → Bool → List ℕ
either_way k n small = elim small [ true ↦ (n + 0xf0) ∷ [] | false ↦ digits_within k (n / 10) ++ (n % 10 + 0xf0) ∷ [] ]

one_digit : (k n : ℕ) → n < 10 → digits_within (suc k) n ≡ (n + 0xf0) ∷ []
unfolding either_way
one_digit k n small = ap (either_way k n) (lt-ltb n 10 small)

more_digits : (k n : ℕ) → 10 ≤ n → digits_within (suc k) n ≡ digits_within k (n / 10) ++ (n % 10 + 0xf0) ∷ []
unfolding either_way
more_digits k n large = ap (either_way k n) (le-ltb n 10 large)

one_more : (k n : ℕ) → n < 10 ^ suc k → (n < 10) ⊎ (10 ≤ n) → digits_within (suc k) n ≡ digits_within (suc (suc k)) n
one_more k n fits (inl small) = one_digit k n small ∙ sym (one_digit (suc k) n small)
one_more zero n fits (inr large) = absurd (omega (arith, pow-suc 10 zero))
one_more (suc k) n fits (inr large) =
    more_digits (suc k) n large
    ∙ ap (λ (higher : List ℕ). higher ++ (n % 10 + 0xf0) ∷ [])
    (one_more k (n / 10) (omega (arith, pow-suc 10 (suc k))) (cases_lt (n / 10) 10))
    ∙ sym (more_digits (suc (suc k)) n large)

-- the last digit stands behind the others
pub digits-last : (n : ℕ) → n < 2 ^ 32 → 10 ≤ n → digits n ≡ digits (n / 10) ++ (n % 10 + 0xf0) ∷ []
digits-last n fits large =
    more_digits 19 n large
    ∙ ap (λ (higher : List ℕ). higher ++ (n % 10 + 0xf0) ∷ [])
    (one_more 18 (n / 10) (omega arith) (cases_lt (n / 10) 10))

pub digits-one : (n : ℕ) → n < 10 → digits n ≡ (n + 0xf0) ∷ []
digits-one n small = one_digit 19 n small

length_digits : (k m n : ℕ) → n < 10 ^ suc k → (n < 10) ⊎ (10 ≤ n) → length (digits_within (suc m) n) ≤ suc k
length_digits k m n fits (inl small) = omega (arith, ap length (one_digit m n small))
length_digits zero m n fits (inr large) = absurd (omega (arith, pow-suc 10 zero))
length_digits (suc k) zero n fits (inr large) = omega (arith, ap length (more_digits zero n large))
length_digits (suc k) (suc m) n fits (inr large) =
    let higher = length_digits k m (n / 10) (omega (arith, pow-suc 10 (suc k))) (cases_lt (n / 10) 10) in
    omega (
      arith,
      ap length (more_digits (suc m) n large),
      length-append (digits_within (suc m) (n / 10))
          ((n % 10 + 0xf0) ∷ []),
      higher,
    )

pub length-digits : (n : ℕ) → n < 2 ^ 32 → length (digits n) ≤ 10
length-digits n fits = length_digits 9 19 n (omega arith) (cases_lt n 10)
