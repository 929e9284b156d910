-- Lists of whole files: which of them are there, by their numbers, after a change.
use Rattle.njh_customer.proofs.Words
use Words.{cases_Bool, not_from_false, cond_both, ℕ, zero, suc, Bool, true, false, cond, not, inl, inr, List, []}
use Words.{length, map, filter, replicate, get_or, refl, sym, ap, arith, Some, ap₂, find, sum, count_by, eq-eqb, subst}
use Words.{set, eqb-true, get_or-map, get_or_default, length-map, Contains-append_right, Contains-get_or, All-contains}
use Words.{filter_passes, sum_by-filter_both, list_any_at, sum-map, sum_by-cons, map-map, Contains, list_any, sum_by}
use Words.{WholeFile, State, only_found, ready, changed_file, may_change, with_file_state}
use Rattle.std.proofs.Common.{◌≡◌, ◌<◌, ◌==◌, ◌||◌, ◌⊎◌, ◌∷◌, ◌∙◌, ◌+◌, ◌≤◌}

-- a list of copies holds nothing else
pub copies : {A : Type 0} (n k : ℕ) (a : A) → get_or (replicate n a) k a ≡ a
copies zero k a = refl
copies (suc n) zero a = refl
copies (suc n) (suc k) a = copies n k a

-- ---- lists that change in their elements

module _ {X Y : Type 0} (g : X → Y) where
  -- in each, where g doesn't see it,
  pub each_same : (f : X → X) → ((x : X) → g (f x) ≡ g x) → (xs : List X) → map g (map f xs) ≡ map g xs
  each_same f same [] = refl
  each_same f same (x ∷ xs) = ap₂ (λ y ys. y ∷ ys) (same x) (each_same f same xs)

  -- and where a test says so
  pub changed_where : (p : X → Bool) (change : X → X) (xs : List X) → ((x : X) → g (change x) ≡ g x)
      → map g (map (λ x. cond (p x) (change x) x) xs) ≡ map g xs
  changed_where p change xs same = each_same (λ x. cond (p x) (change x) x)
      (λ x. cond_both (p x) (change x) x (λ y. g y ≡ g x) (λ _. same x) (λ _. refl)) xs

  -- where g sees the same there are as many,
  pub as_many : (xs ys : List X) → map g xs ≡ map g ys → length xs ≡ length ys
  as_many xs ys e = sym (length-map xs g) ∙ ap (λ (zs : List Y). length zs) e ∙ length-map ys g

  -- and what is added of each by what g sees is the same
  pub same_sum : (weight : Y → ℕ) (xs ys : List X) → map g xs ≡ map g ys
      → sum_by (λ x. weight (g x)) xs ≡ sum_by (λ x. weight (g x)) ys
  same_sum weight xs ys e = sym (sum-map (λ x. weight (g x)) xs)
      ∙ ap sum (sym (map-map weight g xs) ∙ ap (map weight) e ∙ map-map weight g ys) ∙ sum-map (λ x. weight (g x)) ys

module _ {X : Type 0} (weight : X → ℕ) (p : X → Bool) where
  pub some_less : (xs : List X) → sum_by weight (filter p xs) ≤ sum_by weight xs
  some_less xs = omega (arith, sum_by-filter_both p (λ x. not (p x)) (λ x. refl) weight xs)

  -- without those that pass a test, of which one was found
  pub found_less : (xs : List X) (x : X) → find p xs ≡ Some x → sum_by weight
      (filter (λ y. not (p y)) xs) + weight x ≤ sum_by weight xs
  found_less [] x e = absurd (cc e)
  found_less (y ∷ ys) x e = at_test (p y) (found_less ys x) e
    where
      left : List X
      left = filter (λ z. not (p z)) ys

      at_test : (b : Bool) → (find p ys ≡ Some x → sum_by weight left + weight x ≤ sum_by weight ys)
          → cond b (Some y) (find p ys) ≡ Some x
          → sum_by weight (cond (not b) (y ∷ left) left) + weight x ≤ sum_by weight (y ∷ ys)
      at_test true rest e =
          let same : weight y ≡ weight x = ap weight (cc e) in
          omega (arith, sum_by-filter_both p (λ z. not (p z)) (λ z. refl) weight ys, sum_by-cons weight y ys)
      at_test false rest e = omega (arith, rest e, sum_by-cons weight y left, sum_by-cons weight y ys)

-- ---- the elements of lists

-- the first element, or a later one
pub first_or_later : {X : Type 0} (x : X) (xs : List X) (y : X) → Contains (x ∷ xs) y → (x ≡ y) ⊎ Contains xs y
first_or_later x xs y (zero, inside, e) = inl e
first_or_later x xs y (suc i, inside, e) = inr (i, omega arith, e)

-- an element of a mapped list is one of the list's, mapped
pub from_map : {A B : Type 0} (h : A → B) (xs : List A) (d : A) (g : B) → Contains (map h xs) g
    → (f : A) × Contains xs f × (g ≡ h f)
from_map h xs d g at = let inside : at.0 < length xs = omega (arith, length-map xs h) in (
  get_or xs at.0 d,
  Contains-get_or xs at.0 d inside,
  sym at.2 ∙ get_or_default (map h xs) at.0 g (h d) at.1 ∙ get_or-map h xs at.0 d,
)

pub into_map : {A B : Type 0} (h : A → B) (xs : List A) (f : A) → Contains xs f → Contains (map h xs) (h f)
into_map h xs f at = (at.0, omega (arith, length-map xs h), get_or-map h xs at.0 f ∙ ap h at.2)

pub from_filter : {A : Type 0} (p : A → Bool) (xs : List A) (g : A) → Contains (filter p xs) g → Contains xs g
from_filter p [] g at = at
from_filter {A} p (x ∷ xs) g at = at_test (p x) (from_filter p xs g) at
  where
    at_test : (b : Bool) → (Contains (filter p xs) g → Contains xs g)
        → Contains (cond b (x ∷ filter p xs) (filter p xs)) g → Contains (x ∷ xs) g
    at_test false rest at = Contains-append_right (x ∷ []) xs g (rest at)
    at_test true rest at = elim (first_or_later x (filter p xs) g at) [
      | inl first ↦ (0, omega arith, first)
      | inr later ↦ Contains-append_right (x ∷ []) xs g (rest later)
    ]

pub into_filter : {A : Type 0} (p : A → Bool) (xs : List A) (g : A) → Contains xs g → p g ≡ true
    → Contains (filter p xs) g
into_filter p [] g at passes = at
into_filter {A} p (x ∷ xs) g at passes = at_first (p x) refl (first_or_later x xs g at)
    (λ there. into_filter p xs g there passes)
  where
    at_first : (b : Bool) → p x ≡ b → (x ≡ g) ⊎ Contains xs g → (Contains xs g → Contains (filter p xs) g)
        → Contains (cond b (x ∷ filter p xs) (filter p xs)) g
    at_first true e (inl first) rest = (0, omega arith, first)
    at_first true e (inr later) rest = Contains-append_right (x ∷ []) (filter p xs) g (rest later)
    at_first false e (inl first) rest = absurd (cc (sym e ∙ ap p first ∙ passes))
    at_first false e (inr later) rest = rest later

pub passes_filter : {A : Type 0} (p : A → Bool) (xs : List A) (g : A) → Contains (filter p xs) g → p g ≡ true
passes_filter p xs g at = All-contains (λ x. p x ≡ true) (filter p xs) g (filter_passes p xs) at

-- an element of a list that changes where a test says so has changed, or it is as it was
abbrev pub WasOrIs : {X : Type 0} → (X → Bool) → (X → X) → List X → X → Type 0
WasOrIs {X} p change xs g = ((f : X) × Contains xs f × (p f ≡ true) × (g ≡ change f)) ⊎ (Contains xs g × (p g ≡ false))

pub from_where : {X : Type 0} (p : X → Bool) (change : X → X) (xs : List X) (g : X)
    → Contains (map (λ x. cond (p x) (change x) x) xs) g → WasOrIs p change xs g
from_where {X} p change xs g at =
    let found = from_map (λ x. cond (p x) (change x) x) xs g g at in at_test (p found.0) found.0 refl found.1 found.2
  where
    at_test : (b : Bool) (f : X) → p f ≡ b → Contains xs f → g ≡ cond b (change f) f → WasOrIs p change xs g
    at_test true f e there is = inl (f, there, e, is)
    at_test false f e there is = inr (subst (Contains xs) (sym is) there, ap p is ∙ e)

-- what is found is there and passes the test
pub found_one : {X : Type 0} (p : X → Bool) (xs : List X) (x : X) → find p xs ≡ Some x → Contains xs x × (p x ≡ true)
found_one p [] x e = absurd (cc e)
found_one {X} p (y ∷ ys) x e = at_test (p y) refl e (found_one p ys x)
  where
    at_test : (b : Bool) → p y ≡ b → cond b (Some y) (find p ys) ≡ Some x
        → (find p ys ≡ Some x → Contains ys x × (p x ≡ true)) → Contains (y ∷ ys) x × (p x ≡ true)
    at_test true passes e later = let same : y ≡ x = cc e in ((0, omega arith, same), ap p (sym same) ∙ passes)
    at_test false passes e later = let rest = later e in (Contains-append_right (y ∷ []) ys x rest.0, rest.1)

-- where no other has its number, what is there is found by it
pub found_numbered : {X : Type 0} (number : X → ℕ) (xs : List X) (x : X) (n : ℕ) → count_by (λ y. number y == n) xs ≤ 1
    → Contains xs x → number x ≡ n → find (λ y. number y == n) xs ≡ Some x
found_numbered number xs x n few at e =
    only_found (λ y. number y == n) xs at.0 x at.1 (eq-eqb (number (get_or xs at.0 x)) n (ap number at.2 ∙ e)) few
    ∙ ap Some at.2

-- an element is as before, or is the one that was set
pub set_one : {A : Type 0} (xs : List A) (i j : ℕ) (a d : A)
    → (get_or (set xs i a) j d ≡ get_or xs j d) ⊎ ((j ≡ i) × (get_or (set xs i a) j d ≡ a))
set_one [] i j a d = inl refl
set_one (x ∷ xs) zero zero a d = inr (refl, refl)
set_one (x ∷ xs) zero (suc j) a d = inl refl
set_one (x ∷ xs) (suc i) zero a d = inl refl
set_one (x ∷ xs) (suc i) (suc j) a d = at_rest (set_one xs i j a d)
  where
    at_rest : (get_or (set xs i a) j d ≡ get_or xs j d) ⊎ ((j ≡ i) × (get_or (set xs i a) j d ≡ a))
        → (get_or (set xs i a) j d ≡ get_or xs j d) ⊎ ((suc j ≡ suc i) × (get_or (set xs i a) j d ≡ a))
    at_rest (inl same) = inl same
    at_rest (inr there) = inr (ap suc there.0, there.1)

-- ---- the numbers of files

abbrev pub numbers : List WholeFile → List ℕ
numbers fs = map (λ f. f.number) fs

abbrev pub any_numbered : ℕ → List WholeFile → Bool
any_numbered n fs = list_any (λ f. f.number == n) fs

by_numbers : (n : ℕ) (fs : List WholeFile) → any_numbered n fs ≡ list_any (λ m. m == n) (numbers fs)
by_numbers n [] = refl
by_numbers n (f ∷ fs) = ap (λ b. (f.number == n) || b) (by_numbers n fs)

-- files of the same numbers
pub same_numbered : (n : ℕ) (fs gs : List WholeFile) → numbers fs ≡ numbers gs → any_numbered n fs ≡ any_numbered n gs
same_numbered n fs gs e = by_numbers n fs ∙ ap (list_any (λ m. m == n)) e ∙ sym (by_numbers n gs)

-- files that are the same but for their states
pub but_states : (fs gs : List WholeFile) → map ready fs ≡ map ready gs → numbers fs ≡ numbers gs
but_states fs gs e = sym (map-map (λ f. f.number) ready fs) ∙ ap numbers e ∙ map-map (λ f. f.number) ready gs

pub marked_numbers : (n : ℕ) (state : State) (fs : List WholeFile) → numbers (with_file_state n state fs) ≡ numbers fs
marked_numbers n state fs = changed_where (λ f. f.number) (λ f. f.number == n) (λ f. record f { state = state }) fs
    (λ f. refl)

pub changed_numbers : (p : WholeFile → Bool) (change : WholeFile → WholeFile) (fs : List WholeFile)
    → ((f : WholeFile) → (change f).number ≡ f.number) → numbers (map (changed_file p change) fs) ≡ numbers fs
changed_numbers p change fs same = changed_where (λ f. f.number) (may_change p) change fs same

-- there is a file of the number
abbrev pub Has : ℕ → List WholeFile → Type 0
Has n fs = (f : WholeFile) × Contains fs f × (f.number ≡ n)

pub has_one : (n : ℕ) (fs : List WholeFile) → any_numbered n fs ≡ true → Has n fs
has_one n [] e = absurd (cc e)
has_one n (f ∷ fs) e = at_first (f.number == n) refl e (has_one n fs)
  where
    at_first : (b : Bool) → (f.number == n) ≡ b → (b || any_numbered n fs) ≡ true
        → (any_numbered n fs ≡ true → Has n fs) → Has n (f ∷ fs)
    at_first true same there later = (f, (0, omega arith, refl), eqb-true f.number n same)
    at_first false other there later = let found = later there in
        (found.0, Contains-append_right (f ∷ []) fs found.0 found.1, found.2)

pub any_there : (n : ℕ) (fs : List WholeFile) → Has n fs → any_numbered n fs ≡ true
any_there n fs (f, (i, inside, e), is) = list_any_at (λ g. g.number == n) fs i f inside
    (eq-eqb (get_or fs i f).number n (ap (λ g. g.number) e ∙ is))

-- ---- a file that is gone

-- one that passes a test is gone
abbrev pub Gone : (WholeFile → Bool) → ℕ → List WholeFile → Type 0
Gone p n fs = (f : WholeFile) × Contains fs f × (f.number ≡ n) × (p f ≡ true)

pub one_gone : (p : WholeFile → Bool) (n : ℕ) (fs : List WholeFile) → any_numbered n fs ≡ true
    → any_numbered n (filter (λ f. not (p f)) fs) ≡ false → Gone p n fs
one_gone p n fs there gone =
    let found = has_one n fs there in
    let stays : WholeFile → Bool = λ f. not (p f) in
    elim (cases_Bool (p found.0)) [
      | inl passes ↦ (found.0, found.1, found.2, passes)
      | inr fails ↦
          let left = into_filter stays fs found.0 found.1 (not_from_false (p found.0) fails) in
          absurd (cc (sym (any_there n (filter stays fs) (found.0, left, found.2)) ∙ gone))
    ]
