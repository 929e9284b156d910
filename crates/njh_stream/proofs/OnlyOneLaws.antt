-- Lists in which a test passes one element at most, which stands at a known index.
use Rattle.std.proofs.Common.{◌≡◌, ◌<◌, ◌≤◌, ℕ, zero, suc, ◌+◌, Bool, true, false, cond, not, filter, List, [], ◌∷◌}
use Rattle.std.proofs.Common.{◌++◌, length, take, drop, map, set, get_or, find, count_by, Some, refl, sym, ap, ap₂, ◌∙◌}
use Rattle.std.proofs.Common.{not-suc-le-zero, le_of_suc-le-suc, arith}
use Rattle.std.proofs.lemmas.List.Sums.{sum_by-cons}

module _ {X : Type 0} (p : X → Bool) where
  pub count-cons : (x : X) (xs : List X) → count_by p (x ∷ xs) ≡ cond (p x) 1 0 + count_by p xs
  count-cons x xs = sum_by-cons (λ y. cond (p y) 1 0) x xs

  pub count_true : (x : X) (xs : List X) → p x ≡ true → count_by p (x ∷ xs) ≡ 1 + count_by p xs
  count_true x xs e = count-cons x xs ∙ ap (λ b. cond b 1 0 + count_by p xs) e

  pub count_false : (x : X) (xs : List X) → p x ≡ false → count_by p (x ∷ xs) ≡ 0 + count_by p xs
  count_false x xs e = count-cons x xs ∙ ap (λ b. cond b 1 0 + count_by p xs) e

  -- an element that passes is counted
  pub counted_at : (xs : List X) (i : ℕ) (d : X) → i < length xs → p (get_or xs i d) ≡ true → 1 ≤ count_by p xs
  counted_at [] i d h e = absurd (not-suc-le-zero h)
  counted_at (x ∷ xs) zero d h e = omega (arith, count_true x xs e)
  counted_at (x ∷ xs) (suc i) d h e = omega (arith, count-cons x xs, counted_at xs i d (le_of_suc-le-suc h) e)

  -- where none passes nothing changes
  pub none_changed : (g : X → X) (xs : List X) → count_by p xs ≡ 0 → map (λ x. cond (p x) (g x) x) xs ≡ xs
  none_changed g [] e = refl
  none_changed g (x ∷ xs) e = at_test (p x) refl (none_changed g xs)
    where
      at_test :
          (b : Bool) → p x ≡ b → (count_by p xs ≡ 0 → map (λ y. cond (p y) (g y) y) xs ≡ xs)
          → cond b (g x) x ∷ map (λ y. cond (p y) (g y) y) xs ≡ x ∷ xs
      at_test true f more = let no : 1 + count_by p xs ≡ 0 = sym (count_true x xs f) ∙ e in absurd (omega (arith, no))
      at_test false f more = ap (λ rest. x ∷ rest) (more (omega (arith, count_false x xs f, e)))

  -- the one that passes is found
  pub only_found : (xs : List X) (i : ℕ) (d : X) → i < length xs → p (get_or xs i d) ≡ true → count_by p xs ≤ 1
      → find p xs ≡ Some
      (get_or xs i d)
  only_found [] i d h e few = absurd (not-suc-le-zero h)
  only_found (x ∷ xs) zero d h e few = ap (λ b. cond b (Some x) (find p xs)) e
  only_found (x ∷ xs) (suc i) d h e few = at_test (p x) refl (only_found xs i d (le_of_suc-le-suc h) e)
    where
      at_test :
          (b : Bool) → p x ≡ b → (count_by p xs ≤ 1 → find p xs ≡ Some (get_or xs i d))
          → cond b (Some x) (find p xs) ≡ Some (get_or xs i d)
      at_test true f more = absurd (omega (arith, count_true x xs f, few, counted_at xs i d (le_of_suc-le-suc h) e))
      at_test false f more = more (omega (arith, count_false x xs f, few))

  -- and it alone is changed
  pub only_changed :
      (g : X → X) (xs : List X) (i : ℕ) (d : X) → i < length xs → p (get_or xs i d) ≡ true → count_by p xs ≤ 1
      → map (λ x. cond (p x) (g x) x) xs ≡ set xs i (g (get_or xs i d))
  only_changed g [] i d h e few = absurd (not-suc-le-zero h)
  only_changed g (x ∷ xs) zero d h e few =
      ap₂ (λ b rest. cond b (g x) x ∷ rest) e (none_changed g xs (omega (arith, count_true x xs e, few)))
  only_changed g (x ∷ xs) (suc i) d h e few = at_test (p x) refl (only_changed g xs i d (le_of_suc-le-suc h) e)
    where
      at_test :
          (b : Bool) → p x ≡ b → (count_by p xs ≤ 1 → map (λ y. cond (p y) (g y) y) xs ≡ set xs i (g (get_or xs i d)))
          → cond b (g x) x ∷ map (λ y. cond (p y) (g y) y) xs ≡ x ∷ set xs i (g (get_or xs i d))
      at_test true f more = absurd (omega (arith, count_true x xs f, few, counted_at xs i d (le_of_suc-le-suc h) e))
      at_test false f more = ap (λ rest. x ∷ rest) (more (omega (arith, count_false x xs f, few)))

  -- where none passes nothing is removed
  pub none_removed : (xs : List X) → count_by p xs ≡ 0 → filter (λ x. not (p x)) xs ≡ xs
  none_removed [] e = refl
  none_removed (x ∷ xs) e = at_test (p x) refl (none_removed xs)
    where
      at_test :
          (b : Bool) → p x ≡ b → (count_by p xs ≡ 0 → filter (λ y. not (p y)) xs ≡ xs)
          → cond (not b) (x ∷ filter (λ y. not (p y)) xs) (filter (λ y. not (p y)) xs) ≡ x ∷ xs
      at_test true f more = let no : 1 + count_by p xs ≡ 0 = sym (count_true x xs f) ∙ e in absurd (omega (arith, no))
      at_test false f more = ap (λ rest. x ∷ rest) (more (omega (arith, count_false x xs f, e)))

  -- and it alone is removed
  pub only_removed :
      (xs : List X) (i : ℕ) (d : X) → i < length xs → p (get_or xs i d) ≡ true → count_by p xs ≤ 1
      → filter (λ x. not (p x)) xs ≡ take i xs ++ drop (suc i) xs
  only_removed [] i d h e few = absurd (not-suc-le-zero h)
  only_removed (x ∷ xs) zero d h e few =
      ap (λ b. cond (not b) (x ∷ filter (λ y. not (p y)) xs) (filter (λ y. not (p y)) xs)) e
      ∙ none_removed xs (omega (arith, count_true x xs e, few))
  only_removed (x ∷ xs) (suc i) d h e few = at_test (p x) refl (only_removed xs i d (le_of_suc-le-suc h) e)
    where
      at_test :
          (b : Bool) → p x ≡ b → (count_by p xs ≤ 1 → filter (λ y. not (p y)) xs ≡ take i xs ++ drop (suc i) xs)
          → cond (not b) (x ∷ filter (λ y. not (p y)) xs) (filter (λ y. not (p y)) xs)
          ≡ x ∷ (take i xs ++ drop (suc i) xs)
      at_test true f more = absurd (omega (arith, count_true x xs f, few, counted_at xs i d (le_of_suc-le-suc h) e))
      at_test false f more = ap (λ rest. x ∷ rest) (more (omega (arith, count_false x xs f, few)))

module _ {X : Type 0} (g : X → X) where
  -- a list of which the first so many elements are changed, and one more
  pub changed_more :
      (i : ℕ) (xs : List X) (d : X) → i < length xs
      → map g (take (suc i) xs) ++ drop (suc i) xs ≡ set (map g (take i xs) ++ drop i xs) i (g (get_or xs i d))
  changed_more zero [] d h = absurd (not-suc-le-zero h)
  changed_more zero (x ∷ xs) d h = refl
  changed_more (suc i) [] d h = absurd (not-suc-le-zero h)
  changed_more (suc i) (x ∷ xs) d h = ap (λ rest. g x ∷ rest) (changed_more i xs d (le_of_suc-le-suc h))

  pub not_yet : (i : ℕ) (xs : List X) (d : X) → i < length xs
      → get_or (map g (take i xs) ++ drop i xs) i d ≡ get_or xs i d
  not_yet zero [] d h = absurd (not-suc-le-zero h)
  not_yet zero (x ∷ xs) d h = refl
  not_yet (suc i) [] d h = absurd (not-suc-le-zero h)
  not_yet (suc i) (x ∷ xs) d h = not_yet i xs d (le_of_suc-le-suc h)

  pub as_long : (i : ℕ) (xs : List X) → length (map g (take i xs) ++ drop i xs) ≡ length xs
  as_long zero xs = refl
  as_long (suc i) [] = refl
  as_long (suc i) (x ∷ xs) = ap suc (as_long i xs)
