-- Numbers of addresses, each there once.
use Rattle.std.proofs.Common.{◌≡◌, ◌∙◌, ℕ, zero, suc, Bool, true, false, cond, not, eqb, ◌||◌, List, [], ◌∷◌, ◌++◌}
use Rattle.std.proofs.Common.{ap, sym, refl, filter, remove, map, length, arith, ◌≤◌}
use Rattle.std.specs.List.{list_any}
use Rattle.std.proofs.lemmas.Bool.{and_parts, and_from, or_parts, or_from, not-true, eqb-false, ne_eqb}
use Rattle.std.proofs.lemmas.List.Folds.{list_any-append}
use Rattle.njh_anteroom.specs.Addresses.{is_among, are_distinct}

-- ---- fewer numbers

any_kept_case : {X : Type 0} (q : X → Bool) (x : X) (kept : List X) (b : Bool) → list_any q (x ∷ kept) ≡ false
    → list_any q (cond b (x ∷ kept) kept) ≡ false
any_kept_case q x kept true none = none
any_kept_case q x kept false none = (or_parts (q x) (list_any q kept) none).1

pub any_filter : {X : Type 0} (q p : X → Bool) (xs : List X) → list_any q xs ≡ false → list_any q (filter p xs) ≡ false
any_filter q p [] none = refl
any_filter q p (x ∷ xs) none =
    let parts = or_parts (q x) (list_any q xs) none in
    any_kept_case q x (filter p xs) (p x)
    (or_from (q x) (list_any q (filter p xs)) parts.0 (any_filter q p xs parts.1))

pub any_remove : {X : Type 0} (q : X → Bool) (xs : List X) (i : ℕ) → list_any q xs ≡ false
    → list_any q (remove xs i) ≡ false
any_remove q [] zero none = refl
any_remove q [] (suc i) none = refl
any_remove q (x ∷ xs) zero none = (or_parts (q x) (list_any q xs) none).1
any_remove q (x ∷ xs) (suc i) none =
    let parts = or_parts (q x) (list_any q xs) none in
    or_from (q x) (list_any q (remove xs i)) parts.0 (any_remove q xs i parts.1)

distinct_cons : (n : ℕ) (ns : List ℕ) → is_among n ns ≡ false → are_distinct ns ≡ true → are_distinct (n ∷ ns) ≡ true
distinct_cons n ns new rest = and_from (not (is_among n ns)) (are_distinct ns) (ap not new) rest

pub first_new : (n : ℕ) (ns : List ℕ) → are_distinct (n ∷ ns) ≡ true → is_among n ns ≡ false
first_new n ns all = not-true (is_among n ns) (and_parts (not (is_among n ns)) (are_distinct ns) all).0

pub rest_distinct : (n : ℕ) (ns : List ℕ) → are_distinct (n ∷ ns) ≡ true → are_distinct ns ≡ true
rest_distinct n ns all = (and_parts (not (is_among n ns)) (are_distinct ns) all).1

distinct_kept_case : (n : ℕ) (kept : List ℕ) (b : Bool) → are_distinct (n ∷ kept) ≡ true
    → are_distinct (cond b (n ∷ kept) kept) ≡ true
distinct_kept_case n kept true all = all
distinct_kept_case n kept false all = rest_distinct n kept all

pub distinct_filter : (p : ℕ → Bool) (ns : List ℕ) → are_distinct ns ≡ true → are_distinct (filter p ns) ≡ true
distinct_filter p [] all = refl
distinct_filter p (n ∷ ns) all =
    distinct_kept_case n (filter p ns) (p n)
    (distinct_cons n (filter p ns) (any_filter (λ other. eqb other n) p ns (first_new n ns all))
    (distinct_filter p ns (rest_distinct n ns all)))

-- ---- one removed

rest_case : (n : ℕ) (kept : List ℕ) (b : Bool) → are_distinct (cond b (n ∷ kept) kept) ≡ true → are_distinct kept ≡ true
rest_case n kept true all = rest_distinct n kept all
rest_case n kept false all = all

any_rest_case : (q : ℕ → Bool) (n : ℕ) (kept less : List ℕ) (b : Bool)
    → (list_any q kept ≡ false → list_any q less ≡ false)
    → list_any q (cond b (n ∷ kept) kept) ≡ false → list_any q (cond b (n ∷ less) less) ≡ false
any_rest_case q n kept less true goes none =
    let parts = or_parts (q n) (list_any q kept) none in
    or_from (q n) (list_any q less) parts.0 (goes parts.1)
any_rest_case q n kept less false goes none = goes none

any_gone_case : (q : ℕ → Bool) (n : ℕ) (kept : List ℕ) (b : Bool) → list_any q (cond b (n ∷ kept) kept) ≡ false
    → list_any q kept ≡ false
any_gone_case q n kept true none = (or_parts (q n) (list_any q kept) none).1
any_gone_case q n kept false none = none

any_filter_remove : (q p : ℕ → Bool) (ns : List ℕ) (i : ℕ) → list_any q (filter p ns) ≡ false
    → list_any q (filter p (remove ns i)) ≡ false
any_filter_remove q p [] zero none = refl
any_filter_remove q p [] (suc i) none = refl
any_filter_remove q p (n ∷ ns) zero none = any_gone_case q n (filter p ns) (p n) none
any_filter_remove q p (n ∷ ns) (suc i) none =
    any_rest_case q n (filter p ns) (filter p (remove ns i)) (p n) (any_filter_remove q p ns i) none

distinct_less_case : (n : ℕ) (kept less : List ℕ) (b : Bool) → (is_among n kept ≡ false → is_among n less ≡ false)
    → (are_distinct kept ≡ true → are_distinct less ≡ true) → are_distinct (cond b (n ∷ kept) kept) ≡ true
    → are_distinct (cond b (n ∷ less) less) ≡ true
distinct_less_case n kept less true new goes all =
    distinct_cons n less (new (first_new n kept all)) (goes (rest_distinct n kept all))
distinct_less_case n kept less false new goes all = goes all

pub distinct_remove : (p : ℕ → Bool) (ns : List ℕ) (i : ℕ) → are_distinct (filter p ns) ≡ true
    → are_distinct (filter p (remove ns i)) ≡ true
distinct_remove p [] zero all = refl
distinct_remove p [] (suc i) all = refl
distinct_remove p (n ∷ ns) zero all = rest_case n (filter p ns) (p n) all
distinct_remove p (n ∷ ns) (suc i) all =
    distinct_less_case n (filter p ns) (filter p (remove ns i)) (p n)
    (any_filter_remove (λ other. eqb other n) p ns i) (distinct_remove p ns i) all

filter_all : (ns : List ℕ) → filter (λ n. true) ns ≡ ns
filter_all [] = refl
filter_all (n ∷ ns) = ap (λ (rest : List ℕ). n ∷ rest) (filter_all ns)

pub distinct_less : (ns : List ℕ) (i : ℕ) → are_distinct ns ≡ true → are_distinct (remove ns i) ≡ true
distinct_less ns i all =
    sym (ap are_distinct (filter_all (remove ns i)))
    ∙ distinct_remove (λ n. true) ns i (ap are_distinct (filter_all ns) ∙ all)

-- ---- one of anything removed

pub map_remove : {X Y : Type 0} (f : X → Y) (xs : List X) (i : ℕ) → map f (remove xs i) ≡ remove (map f xs) i
map_remove f [] zero = refl
map_remove f [] (suc i) = refl
map_remove f (x ∷ xs) zero = refl
map_remove {Y = Y} f (x ∷ xs) (suc i) = ap (λ (ys : List Y). f x ∷ ys) (map_remove f xs i)

pub length_remove : {X : Type 0} (xs : List X) (i : ℕ) → length (remove xs i) ≤ length xs
length_remove [] zero = omega arith
length_remove [] (suc i) = omega arith
length_remove (x ∷ xs) zero = omega arith
length_remove (x ∷ xs) (suc i) = let rest = length_remove xs i in omega arith

-- ---- one more

pub distinct_push : (ns : List ℕ) (n : ℕ) → are_distinct ns ≡ true → is_among n ns ≡ false
    → are_distinct (ns ++ n ∷ []) ≡ true
distinct_push [] n all new = refl
distinct_push (m ∷ ns) n all new =
    let parts = or_parts (eqb m n) (is_among n ns) new in
    let differs : eqb n m ≡ false = ne_eqb n m (λ same. eqb-false m n parts.0 (sym same)) in
    let apart : is_among m (ns ++ n ∷ []) ≡ false =
    list_any-append (λ other. eqb other m) ns (n ∷ [])
    ∙ or_from (is_among m ns) (eqb n m || false) (first_new m ns all) (or_from (eqb n m) false differs refl) in
    distinct_cons m (ns ++ n ∷ []) apart (distinct_push ns n (rest_distinct m ns all) parts.1)

-- ---- all but those of one address

gone_case : (n m : ℕ) (ns : List ℕ) (b : Bool) → eqb m n ≡ b → is_among n ns ≡ false
    → is_among n (cond (not b) (m ∷ ns) ns) ≡ false
gone_case n m ns true is none = none
gone_case n m ns false is none = or_from (eqb m n) (is_among n ns) is none

pub none_left : (n : ℕ) (ns : List ℕ) → is_among n (filter (λ m. not (eqb m n)) ns) ≡ false
none_left n [] = refl
none_left n (m ∷ ns) = gone_case n m (filter (λ k. not (eqb k n)) ns) (eqb m n) refl (none_left n ns)
