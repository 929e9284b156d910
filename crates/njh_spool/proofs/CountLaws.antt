-- Lists of numbers, in which a number stands once or not at all, and what is made of each of their numbers.
use Rattle.std.proofs.Common.{◌≡◌, ◌≢◌, ℕ, ◌+◌, Bool, true, false, cond, not, eqb, List, [], ◌∷◌, ◌++◌, length, map}
use Rattle.std.proofs.Common.{filter, find, count_by, sum_by, Some, refl, ap, ◌∙◌, inl, inr, arith, eq-eqb, ne_eqb}
use Rattle.std.specs.List.{list_any}
use Rattle.std.proofs.lemmas.Bool.{cases_Bool, cases_eq}
use Rattle.std.proofs.lemmas.List.Sums.{sum_by-cons, sum_by_push}
use Rattle.njh_spool.proofs.OnlyOne.{list_any-from_count, count_by_none, filter_none}

abbrev pub is_at : ℕ → ℕ → Bool
is_at n m = eqb m n

pub sum_map : {X : Type 0} (g : X → ℕ) (f : ℕ → X) (xs : List ℕ) → sum_by g (map f xs) ≡ sum_by (λ m. g (f m)) xs
sum_map g f [] = refl
sum_map g f (x ∷ xs) =
    omega (arith, sum_by-cons g (f x) (map f xs), sum_by-cons (λ m. g (f m)) x xs, sum_map g f xs)

sum_ones : (xs : List ℕ) → sum_by (λ m. 1) xs ≡ length xs
sum_ones [] = refl
sum_ones (x ∷ xs) = omega (arith, sum_by-cons (λ (m : ℕ). 1) x xs, sum_ones xs)

-- the first number is the one that is looked for, or isn't counted
one_more : (n x : ℕ) (xs : List ℕ) → x ≡ n → count_by (is_at n) (x ∷ xs) ≡ 1 + count_by (is_at n) xs
one_more n x xs here =
    let one : ◌≡◌ {A = ℕ} (cond (eqb x n) 1 0) 1 = rw (eq-eqb x n here) refl in
    omega (arith, sum_by-cons (λ k. cond {A = ℕ} (eqb k n) 1 0) x xs)

none_more : (n x : ℕ) (xs : List ℕ) → x ≢ n → count_by (is_at n) (x ∷ xs) ≡ count_by (is_at n) xs
none_more n x xs other =
    let none : ◌≡◌ {A = ℕ} (cond (eqb x n) 1 0) 0 = rw (ne_eqb x n other) refl in
    omega (arith, sum_by-cons (λ k. cond {A = ℕ} (eqb k n) 1 0) x xs)

-- what differs at one number alone
pub map_off : {X : Type 0} (n : ℕ) (f g : ℕ → X) (xs : List ℕ) → ((m : ℕ) → m ≢ n → f m ≡ g m)
    → count_by (is_at n) xs ≡ 0 →
    map f xs ≡ map g xs
map_off n f g [] same none = refl
map_off n f g (x ∷ xs) same none =
    elim (cases_eq x n) [
      | inl here ↦ absurd (omega (arith, one_more n x xs here))
      | inr other ↦ rw (same x other, map_off n f g xs same (omega (arith, none_more n x xs other))) refl
    ]

pub sum_off : (n : ℕ) (f g : ℕ → ℕ) (xs : List ℕ) (b : Bool) → ((m : ℕ) → m ≢ n → f m ≡ g m) →
    count_by (is_at n) xs ≡ cond b 1 0 → sum_by f xs + cond b (g n) 0 ≡ sum_by g xs + cond b (f n) 0
sum_off n f g [] true same count = absurd (omega arith)
sum_off n f g [] false same count = refl
sum_off n f g (x ∷ xs) b same count =
    let sum_f = sum_by-cons f x xs in
    let sum_g = sum_by-cons g x xs in
    elim (cases_eq x n) [
      | inl here ↦
          elim b as (λ b'. count_by (is_at n) (x ∷ xs) ≡ cond b' 1 0 →
          sum_by f (x ∷ xs) + cond b' (g n) 0 ≡ sum_by g (x ∷ xs) + cond b' (f n) 0) [
            | true ↦ λ once. omega (
              arith,
              sum_f,
              sum_g,
              ap f here,
              ap g here,
              sum_off n f g xs false same (omega (arith, one_more n x xs here)),
            )
            | false ↦ λ none. absurd (omega (arith, one_more n x xs here))
          ] count
      | inr other ↦
          omega (arith, sum_f, sum_g, same x other, sum_off n f g xs b same (omega (arith, none_more n x xs other)))
    ]

-- how a list turns into another, by whether a number stood there and stands there now
pub record Turns (n : ℕ) (before now : Bool) (xs ys : List ℕ) : Type 0 where
  pub sums : (g : ℕ → ℕ) → sum_by g ys + cond before (g n) 0 ≡ sum_by g xs + cond now (g n) 0

pub stays : (n : ℕ) (b : Bool) (xs : List ℕ) → Turns n b b xs xs
stays n b xs = record { sums = λ g. refl }

pub pushed : (n : ℕ) (xs : List ℕ) → Turns n false true xs (xs ++ n ∷ [])
pushed n xs = record { sums = λ g. omega (arith, sum_by_push g xs n) }

gone : (n : ℕ) (g : ℕ → ℕ) (xs : List ℕ) → count_by (is_at n) xs ≡ 1 →
    sum_by g (filter (λ m. not (eqb m n)) xs) + g n ≡ sum_by g xs
gone n g [] once = absurd (omega arith)
gone n g (x ∷ xs) once =
    elim (cases_eq x n) [
      | inl here ↦
          let none = list_any-from_count (is_at n) xs (omega (arith, one_more n x xs here)) in
          let left : filter (λ m. not (eqb m n)) (x ∷ xs) ≡ xs = rw (eq-eqb x n here) (filter_none (is_at n) xs none) in
          omega (arith, ap (sum_by g) left, sum_by-cons g x xs, ap g here)
      | inr other ↦
          let left : filter (λ m. not (eqb m n)) (x ∷ xs) ≡ x ∷ filter (λ m. not (eqb m n)) xs =
          rw (ne_eqb x n other) refl in
          omega (
            arith,
            ap (sum_by g) left,
            sum_by-cons g x (filter (λ m. not (eqb m n)) xs),
            sum_by-cons g x xs,
            gone n g xs (omega (arith, none_more n x xs other)),
          )
    ]

pub taken : (n : ℕ) (xs : List ℕ) → count_by (is_at n) xs ≡ 1 → Turns n true false xs (filter (λ m. not (eqb m n)) xs)
taken n xs once = record { sums = λ g. omega (arith, gone n g xs once) }

pub taken-none : (n : ℕ) (xs : List ℕ) → count_by (is_at n) xs ≡ 1
    → count_by (is_at n) (filter (λ m. not (eqb m n)) xs) ≡ 0
taken-none n xs once =
    let here : ◌≡◌ {A = ℕ} (cond (eqb n n) 1 0) 1 = rw (eq-eqb n n refl) refl in
    omega (arith, gone n (λ k. cond {A = ℕ} (eqb k n) 1 0) xs once)

pub lengths : {n : ℕ} {before now : Bool} {xs ys : List ℕ} → Turns n before now xs ys →
    length ys + cond before 1 0 ≡ length xs + cond now 1 0
lengths {xs = xs} {ys = ys} turns = omega (arith, turns.sums (λ m. 1), sum_ones xs, sum_ones ys)

-- whether a number is listed
pub listed : (b : Bool) (xs : List ℕ) (n : ℕ) → count_by (is_at n) xs ≡ cond b 1 0 → list_any (is_at n) xs ≡ b
listed false xs n count = list_any-from_count (is_at n) xs count
listed true xs n count =
    elim (cases_Bool (list_any (is_at n) xs)) [
      | inl found ↦ found
      | inr none ↦ absurd (omega (arith, count_by_none (is_at n) xs none))
    ]

-- what is made of a list's numbers, by a test that tells one of them
module _ {X : Type 0} (n : ℕ) (p : X → Bool) (f : ℕ → X) (is : (m : ℕ) → p (f m) ≡ eqb m n) where
  any_map : (xs : List ℕ) → list_any p (map f xs) ≡ list_any (is_at n) xs
  any_map [] = refl
  any_map (x ∷ xs) = rw (is x, any_map xs) refl

  pub any_at : (xs : List ℕ) (b : Bool) → count_by (is_at n) xs ≡ cond b 1 0 → list_any p (map f xs) ≡ b
  any_at xs b count = any_map xs ∙ listed b xs n count

  pub find_at : (xs : List ℕ) → count_by (is_at n) xs ≡ 1 → find p (map f xs) ≡ Some (f n)
  find_at [] once = absurd (omega arith)
  find_at (x ∷ xs) once =
      elim (cases_eq x n) [
        | inl here ↦
            let passes : p (f x) ≡ true = is x ∙ eq-eqb x n here in
            rw passes (ap (λ (m : ℕ). Some (f m)) here)
        | inr other ↦
            let fails : p (f x) ≡ false = is x ∙ ne_eqb x n other in
            rw fails (find_at xs (omega (arith, none_more n x xs other)))
      ]

  pub filter_at : (xs : List ℕ) → filter (λ y. not (p y)) (map f xs) ≡ map f (filter (λ m. not (eqb m n)) xs)
  filter_at [] = refl
  filter_at (x ∷ xs) =
      elim (cases_Bool (eqb x n)) [
        | inl here ↦ let passes = is x ∙ here in rw (passes, here) (filter_at xs)
        | inr other ↦ let fails = is x ∙ other in rw (fails, other) (ap (λ (ys : List X). f x ∷ ys) (filter_at xs))
      ]

pub map_both : {X : Type 0} (h : X → X) (f f' : ℕ → X) (xs : List ℕ) → ((m : ℕ) → h (f m) ≡ f' m)
    → map h (map f xs) ≡ map f' xs
map_both h f f' [] same = refl
map_both h f f' (x ∷ xs) same = rw (same x, map_both h f f' xs same) refl
