-- Lists in which a test finds nothing, or one element.
use Rattle.std.proofs.Common.{◌≡◌, ℕ, Bool, true, false, cond, not, List, [], ◌∷◌, ◌++◌, map, filter, find}
use Rattle.std.proofs.Common.{count_by, Some, None, refl, ap, inl, inr, arith}
use Rattle.std.specs.List.{list_any}
use Rattle.std.proofs.lemmas.Bool.{cases_Bool, or_parts}
use Rattle.std.proofs.lemmas.List.Elements.{filter-append}
use Rattle.std.proofs.lemmas.List.{map-append}
use Rattle.std.proofs.lemmas.List.Sums.{sum_by-cons}

module _ {X : Type 0} (p : X → Bool) where
  -- where the test finds nothing
  pub filter_none : (xs : List X) → list_any p xs ≡ false → filter (λ x. not (p x)) xs ≡ xs
  filter_none [] none = refl
  filter_none (x ∷ xs) none =
      let parts = or_parts (p x) (list_any p xs) none in
      rw parts.0 (ap (λ (ys : List X). x ∷ ys) (filter_none xs parts.1))

  pub map_none : (f : X → X) (xs : List X) → list_any p xs ≡ false → map (λ x. cond (p x) (f x) x) xs ≡ xs
  map_none f [] none = refl
  map_none f (x ∷ xs) none =
      let parts = or_parts (p x) (list_any p xs) none in
      rw parts.0 (ap (λ (ys : List X). x ∷ ys) (map_none f xs parts.1))

  pub find_none : (xs : List X) → list_any p xs ≡ false → find p xs ≡ None
  find_none [] none = refl
  find_none (x ∷ xs) none =
      let parts = or_parts (p x) (list_any p xs) none in
      rw parts.0 (find_none xs parts.1)

  pub count_by_none : (xs : List X) → list_any p xs ≡ false → count_by p xs ≡ 0
  count_by_none [] none = refl
  count_by_none (x ∷ xs) none =
      let parts = or_parts (p x) (list_any p xs) none in
      let here : ◌≡◌ {A = ℕ} (cond (p x) 1 0) 0 = rw parts.0 refl in
      omega (arith, sum_by-cons (λ y. cond (p y) 1 0) x xs, count_by_none xs parts.1)

  pub list_any-from_count : (xs : List X) → count_by p xs ≡ 0 → list_any p xs ≡ false
  list_any-from_count [] none = refl
  list_any-from_count (x ∷ xs) none =
      let counted = sum_by-cons (λ y. cond (p y) 1 0) x xs in
      elim (cases_Bool (p x)) [
        | inl passes ↦ let here : ◌≡◌ {A = ℕ} (cond (p x) 1 0) 1 = rw passes refl in absurd (omega arith)
        | inr other ↦ let here : ◌≡◌ {A = ℕ} (cond (p x) 1 0) 0 = rw other refl in
            rw other (list_any-from_count xs (omega arith))
      ]

  -- where it finds one element
  pub filter_one : (xs ys : List X) (x : X) → p x ≡ true → list_any p xs ≡ false → list_any p ys ≡ false →
      filter (λ y. not (p y)) (xs ++ x ∷ ys) ≡ xs ++ ys
  filter_one xs ys x passes before after =
      rw (filter-append (λ y. not (p y)) xs (x ∷ ys), filter_none xs before, passes, filter_none ys after) refl

  pub map_one : (f : X → X) (xs ys : List X) (x : X) → p x ≡ true → list_any p xs ≡ false → list_any p ys ≡ false →
      map (λ y. cond (p y) (f y) y) (xs ++ x ∷ ys) ≡ xs ++ f x ∷ ys
  map_one f xs ys x passes before after =
      rw (map-append (λ y. cond (p y) (f y) y) xs (x ∷ ys), map_none f xs before, passes, map_none f ys after) refl

  pub find_one : (xs ys : List X) (x : X) → p x ≡ true → list_any p xs ≡ false → find p (xs ++ x ∷ ys) ≡ Some x
  find_one [] ys x passes before = rw passes refl
  find_one (z ∷ zs) ys x passes before =
      let parts = or_parts (p z) (list_any p zs) before in
      rw parts.0 (find_one zs ys x passes parts.1)
