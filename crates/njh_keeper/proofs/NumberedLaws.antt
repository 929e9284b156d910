-- What has rising numbers: one put among them, some taken out, and those that pass a test.
use Rattle.njh_keeper.proofs.Words
use Words.{◌≡◌, ◌≢◌, ℕ, zero, suc, ◌<◌, ◌==◌, Bool, true, false, not, cond, List, [], ◌∷◌, ◌++◌, length, get_or, set}
use Words.{remove, filter, Contains, refl, sym, ap, subst, ◌∙◌, arith, nat_tests, All-filter, All-from_recursion}
use Words.{recursion_from_All, filter_passes, AllByRecursion, Rise, put, without}
use Rattle.std.{proofs.lemmas.List.Elements.All-contains_itself, specs.Ordering.{nat_cmp, match_ordering}}
use Rattle.std.specs.declared.cmp.Ordering.{Ordering, TheVariants.{Less, Equal, Greater}}
use Rattle.{njh_spoolfile.proofs.Rows.{same, above}, sqlite_trees.proofs.ListLemmas.{all-append, ascending-filter}}
pub use Rattle.sqlite_trees.proofs.ListLemmas.{all_both, all_of, all_weaker, filter-map, filter_all, filter_none}

pub equal : (n : ℕ) → (n == n) ≡ true
equal n = grind (arith, nat_tests)

pub unequal : (m n : ℕ) → m ≢ n → (m == n) ≡ false
unequal m n h = grind (arith, nat_tests, h)

pub equal_to : (m n : ℕ) → (m == n) ≡ true → m ≡ n
equal_to m n h = grind (arith, nat_tests, h)

module _ {X : Type 0} where
  pub all_filter : (p : X → Bool) (P : X → Type 0) (xs : List X) → AllByRecursion P xs → AllByRecursion P (filter p xs)
  all_filter p P xs h = recursion_from_All P (filter p xs) (All-filter p P xs (All-from_recursion P xs h))

  pub all-push : (P : X → Type 0) (xs : List X) (x : X) → AllByRecursion P xs → P x → AllByRecursion P (xs ++ x ∷ [])
  all-push P xs x all one = all-append P xs (x ∷ []) all (one, tt)

  pub all_at : (P : X → Type 0) (xs : List X) (i : ℕ) (x : X) → AllByRecursion P xs → i < length xs → x ≡ get_or xs i x
      → P x
  all_at P xs i x h there is = subst P (sym is) (All-from_recursion P xs h i x there)

  all_pass : (p : X → Bool) (xs : List X) → AllByRecursion (λ x. p x ≡ true) (filter p xs)
  all_pass p xs = recursion_from_All (λ x. p x ≡ true) (filter p xs) (filter_passes p xs)

  -- what a filter keeps was there
  pub filter_there : (p : X → Bool) (xs : List X) (i : ℕ) (x : X) → i < length (filter p xs)
      → x ≡ get_or (filter p xs) i x → Contains xs x
  filter_there p xs i x there is = subst (Contains xs) (sym is)
      (All-filter p (Contains xs) xs (All-contains_itself xs) i x there)

  pub filter_comm : (p q : X → Bool) (xs : List X) → filter p (filter q xs) ≡ filter q (filter p xs)
  filter_comm p q [] = refl
  filter_comm p q (x ∷ xs) = split (p x) (q x) refl refl (filter_comm p q xs)
    where
      split : (a b : Bool) → p x ≡ a → q x ≡ b → filter p (filter q xs) ≡ filter q (filter p xs)
          → filter p (cond b (x ∷ filter q xs) (filter q xs)) ≡ filter q (cond a (x ∷ filter p xs) (filter p xs))
      split true true is has rest = rw (is, has) (ap (λ ys. x ∷ ys) rest)
      split true false is has rest = rw has rest
      split false true is has rest = rw is rest
      split false false is has rest = rest

module _ {X : Type 0} where
  pub put_last : (id : ℕ) (x : X) (es : List (ℕ × X)) → AllByRecursion (λ e. e.0 < id) es
      → put (id, x) es ≡ es ++ (id, x) ∷ []
  put_last id x [] all = refl
  put_last id x (e ∷ es) all =
      let less : nat_cmp e.0 id ≡ Less = grind (arith, nat_tests, all.0) in
      ap (λ o. match_ordering o (e ∷ put (id, x) es) ((id, x) ∷ es) ((id, x) ∷ e ∷ es)) less
      ∙ ap (λ ys. e ∷ ys) (put_last id x es all.1)

  pub put_first : (new : ℕ × X) (es : List (ℕ × X)) → AllByRecursion (λ e. new.0 < e.0) es → put new es ≡ new ∷ es
  put_first new [] all = refl
  put_first new (e ∷ es) all =
      let more : nat_cmp e.0 new.0 ≡ Greater = grind (arith, nat_tests, all.0) in
      ap (λ o. match_ordering o (e ∷ put new es) (new ∷ es) (new ∷ e ∷ es)) more

  -- ---- those that pass

  pub rises_filter : (p : ℕ × X → Bool) (es : List (ℕ × X)) → Rise es → Rise (filter p es)
  rises_filter p = ascending-filter (λ a b. a.0 < b.0) p

  pub filter-put : (p : ℕ × X → Bool) (new : ℕ × X) (es : List (ℕ × X)) → Rise es → p new ≡ true
      → filter p (put new es) ≡ put new (filter p es)
  filter-put p new [] up passes = rw passes refl
  filter-put p new (e ∷ es) up passes = split (nat_cmp e.0 new.0) (p e) refl refl (filter-put p new es up.1 passes)
    where
      first : (ys : List (ℕ × X)) → AllByRecursion (λ y. new.0 < y.0) ys
          → cond (p new) (new ∷ filter p ys) (filter p ys) ≡ put new (filter p ys)
      first ys high = rw passes (sym (put_first new (filter p ys) (all_filter p (λ y. new.0 < y.0) ys high)))

      split : (o : Ordering) (b : Bool) → nat_cmp e.0 new.0 ≡ o → p e ≡ b
          → filter p (put new es) ≡ put new (filter p es)
          → filter p (match_ordering o (e ∷ put new es) (new ∷ es) (new ∷ e ∷ es))
          ≡ put new (cond b (e ∷ filter p es) (filter p es))
      split Less true is has rest = rw (has, is) (ap (λ ys. e ∷ ys) rest)
      split Less false is has rest = rw has rest
      split Equal true is has rest = rw (passes, is) refl
      split Equal false is has rest = first es (subst (λ n. AllByRecursion (λ y. n < y.0) es) (same e.0 new.0 is) up.0)
      split Greater true is has rest = rw (passes, has, is) refl
      split Greater false is has rest =
          let low = above e.0 new.0 is in
          rw has (first es (all_weaker (λ y. e.0 < y.0) (λ y. new.0 < y.0) (λ y more. omega (arith, low, more)) es
          up.0))

  pub filter-put_other : (p : ℕ × X → Bool) (new : ℕ × X) (es : List (ℕ × X)) → p new ≡ false
      → AllByRecursion (λ e. e.0 ≡ new.0 → p e ≡ false) es → filter p (put new es) ≡ filter p es
  filter-put_other p new [] fails alike = rw fails refl
  filter-put_other p new (e ∷ es) fails alike = split (nat_cmp e.0 new.0) refl (filter-put_other p new es fails alike.1)
    where
      split : (o : Ordering) → nat_cmp e.0 new.0 ≡ o → filter p (put new es) ≡ filter p es
          → filter p (match_ordering o (e ∷ put new es) (new ∷ es) (new ∷ e ∷ es)) ≡ filter p (e ∷ es)
      split Less is rest = ap (λ ys. cond (p e) (e ∷ ys) ys) rest
      split Equal is rest = rw (fails, alike.0 (same e.0 new.0 is)) refl
      split Greater is rest = rw fails refl

  pub filter-without : (p : ℕ × X → Bool) (q : ℕ → Bool) (es : List (ℕ × X))
      → filter p (without q es) ≡ without q (filter p es)
  filter-without p q es = filter_comm p (λ e. not (q e.0)) es

  pub filter-without_other : (p : ℕ × X → Bool) (q : ℕ → Bool) (es : List (ℕ × X))
      → AllByRecursion (λ e. p e ≡ true → q e.0 ≡ false) es → filter p (without q es) ≡ filter p es
  filter-without_other p q es apart =
      filter-without p q es ∙ filter_all (λ e. not (q e.0)) (filter p es)
      (all_both (λ e. p e ≡ true) (λ e. p e ≡ true → q e.0 ≡ false) (λ e. not (q e.0) ≡ true)
      (λ e passes fails. ap not (fails passes)) (filter p es) (all_pass p es)
      (all_filter p (λ e. p e ≡ true → q e.0 ≡ false) es apart))

  pub kept_apart : (id : ℕ) (es : List (ℕ × X)) → AllByRecursion (λ e. e.0 ≢ id) (without (λ n. n == id) es)
  kept_apart id es =
      all_weaker (λ e. not (e.0 == id) ≡ true) (λ e. e.0 ≢ id)
      (λ e other here. absurd (let never = sym (ap not (ap (λ n. n == id) here ∙ equal id)) ∙ other in cc))
      (without (λ n. n == id) es) (all_pass (λ e. not (e.0 == id)) es)

  -- ---- the one at a place

  -- no other has its number
  pub one_at : (es : List (ℕ × X)) (i : ℕ) (e : ℕ × X) → Rise es → i < length es → e ≡ get_or es i e
      → AllByRecursion (λ x. x.0 ≡ e.0 → x ≡ e) es
  one_at [] i e up there is = tt
  one_at (y ∷ es) zero e up there is = (
    λ _. sym is,
    all_weaker (λ x. y.0 < x.0) (λ x. x.0 ≡ e.0 → x ≡ e)
        (λ x high here. absurd (let number = ap (λ (z : ℕ × X). z.0) is in omega (arith, high, here, number))) es up.0,
  )
  one_at (y ∷ es) (suc i) e up there is =
      let low : y.0 < e.0 = all_at (λ x. y.0 < x.0) es i e up.0 (omega (arith, there)) is in
      (λ here. absurd (omega (arith, low, here)), one_at es i e up.1 (omega (arith, there)) is)

  pub without_at : (es : List (ℕ × X)) (i : ℕ) (e : ℕ × X) → Rise es → i < length es → e ≡ get_or es i e
      → without (λ n. n == e.0) es ≡ remove es i
  without_at [] i e up there is = absurd (omega (arith, there))
  without_at (y ∷ es) zero e up there is =
      let number : y.0 ≡ e.0 = ap (λ (z : ℕ × X). z.0) (sym is) in
      rw (number, equal e.0) (filter_all (λ x. not (x.0 == e.0)) es
      (all_weaker (λ x. y.0 < x.0) (λ x. not (x.0 == e.0) ≡ true)
      (λ x high. ap not (unequal x.0 e.0 (λ here. omega (arith, high, here, number)))) es up.0))
  without_at (y ∷ es) (suc i) e up there is =
      let low : y.0 < e.0 = all_at (λ x. y.0 < x.0) es i e up.0 (omega (arith, there)) is in
      rw (unequal y.0 e.0 (λ here. omega (arith, low, here)))
      (ap (λ ys. y ∷ ys) (without_at es i e up.1 (omega (arith, there)) is))

  pub put_at : (es : List (ℕ × X)) (i : ℕ) (e : ℕ × X) (x : X) → Rise es → i < length es → e ≡ get_or es i e
      → put (e.0, x) (without (λ n. n == e.0) es) ≡ set es i (e.0, x)
  put_at [] i e x up there is = absurd (omega (arith, there))
  put_at (y ∷ es) zero e x up there is =
      let number : y.0 ≡ e.0 = ap (λ (z : ℕ × X). z.0) (sym is) in
      let high : AllByRecursion (λ z. e.0 < z.0) es = subst (λ n. AllByRecursion (λ z. n < z.0) es) number up.0 in
      ap (put (e.0, x)) (without_at (y ∷ es) zero e up there is) ∙ put_first (e.0, x) es high
  put_at (y ∷ es) (suc i) e x up there is =
      let low : y.0 < e.0 = all_at (λ z. y.0 < z.0) es i e up.0 (omega (arith, there)) is in
      let less : nat_cmp y.0 e.0 ≡ Less = grind (arith, nat_tests, low) in
      rw (unequal y.0 e.0 (λ here. omega (arith, low, here)), less)
      (ap (λ ys. y ∷ ys) (put_at es i e x up.1 (omega (arith, there)) is))
