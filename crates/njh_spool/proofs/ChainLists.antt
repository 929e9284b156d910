-- Lists of which one element is replaced, and fields of lists that are put together.
use Rattle.std.proofs.Common.{◌≡◌, ◌≢◌, ℕ, zero, suc, ◌+◌, ◌<◌, ◌≤◌, List, [], ◌∷◌, ◌++◌, length, get_or, set, take}
use Rattle.std.proofs.Common.{drop, map, sum_by, refl, sym, ap, ◌∙◌, arith, rules, append_assoc, length-drop}
use Rattle.std.proofs.lemmas.List.{same_lists, places, take-append-le, drop-append-le, drop_at, drop-drop}
use Rattle.std.proofs.lemmas.List.Sums.{sum_by-cons, get_or-le-sum_by}
use Rattle.njh_record.specs.Bytes.{field, with_field}

-- two elements together are within the sum
pub sum_by-two : {X : Type 0} (f : X → ℕ) (xs : List X) (i j : ℕ) (d : X) → i < length xs → j < length xs → j ≢ i →
    f (get_or xs i d) + f (get_or xs j d) ≤ sum_by f xs
sum_by-two f [] i j d at_i at_j differ = absurd (omega arith)
sum_by-two f (x ∷ xs) zero zero d at_i at_j differ = absurd (differ refl)
sum_by-two f (x ∷ xs) zero (suc j) d at_i at_j differ =
    let rest = get_or-le-sum_by f xs j d (omega arith) in
    omega (arith, sum_by-cons f x xs)
sum_by-two f (x ∷ xs) (suc i) zero d at_i at_j differ =
    let rest = get_or-le-sum_by f xs i d (omega arith) in
    omega (arith, sum_by-cons f x xs)
sum_by-two f (x ∷ xs) (suc i) (suc j) d at_i at_j differ =
    let rest = sum_by-two f xs i j d (omega arith) (omega arith) (λ same. differ (ap suc same)) in
    omega (arith, sum_by-cons f x xs)

pub sum_by-same : {X : Type 0} (f g : X → ℕ) (xs : List X) (d : X) →
    ((j : ℕ) → j < length xs → f (get_or xs j d) ≡ g (get_or xs j d)) → sum_by f xs ≡ sum_by g xs
sum_by-same f g [] d same = refl
sum_by-same f g (x ∷ xs) d same =
    let first : f x ≡ g x = same 0 (omega arith) in
    let rest = sum_by-same f g xs d (λ j h. same (suc j) (omega arith)) in
    omega (arith, sum_by-cons f x xs, sum_by-cons g x xs)

-- one element is another, and the others count for as much as before
pub sum_by-but : {X : Type 0} (f g : X → ℕ) (xs : List X) (i : ℕ) (y d : X) → i < length xs →
    ((j : ℕ) → j < length xs → j ≢ i → f (get_or xs j d) ≡ g (get_or xs j d))
    → sum_by f (set xs i y) + g (get_or xs i d) ≡
    sum_by g xs + f y
sum_by-but f g [] i y d within same = absurd (omega arith)
sum_by-but f g (x ∷ xs) zero y d within same =
    let rest = sum_by-same f g xs d (λ j h. same (suc j) (omega arith) (omega arith)) in
    omega (arith, sum_by-cons f y xs, sum_by-cons g x xs)
sum_by-but f g (x ∷ xs) (suc i) y d within same =
    let first : f x ≡ g x = same 0 (omega arith) (omega arith) in
    let rest = sum_by-but f g xs i y d (omega arith) (λ j h differ. same (suc j) (omega arith) (omega arith)) in
    omega (arith, sum_by-cons f x (set xs i y), sum_by-cons g x xs)

map-same : {X Y : Type 0} (f g : X → Y) (xs : List X) (d : X) →
    ((j : ℕ) → j < length xs → f (get_or xs j d) ≡ g (get_or xs j d)) → map f xs ≡ map g xs
map-same f g [] d same = refl
map-same f g (x ∷ xs) d same =
    let first : f x ≡ g x = same 0 (omega arith) in
    let rest = map-same f g xs d (λ j h. same (suc j) (omega arith)) in
    cc

pub map-but : {X Y : Type 0} (f g : X → Y) (xs : List X) (i : ℕ) (y d : X) →
    ((j : ℕ) → j < length xs → j ≢ i → f (get_or xs j d) ≡ g (get_or xs j d))
    → map f (set xs i y) ≡ set (map g xs) i (f y)
map-but f g [] i y d same = refl
map-but f g (x ∷ xs) zero y d same =
    let rest = map-same f g xs d (λ j h. same (suc j) (omega arith) (omega arith)) in
    ap (λ zs. f y ∷ zs) rest
map-but f g (x ∷ xs) (suc i) y d same =
    let first : f x ≡ g x = same 0 (omega arith) (omega arith) in
    let rest = map-but f g xs i y d (λ j h differ. same (suc j) (omega arith) (omega arith)) in
    cc

-- a field of the first list
pub with_field-left : (p : ℕ) (new xs ys : List ℕ) → p + length new ≤ length xs
    → with_field p new (xs ++ ys) ≡ with_field p new xs ++ ys
with_field-left p new xs ys fits =
    let front = take-append-le p xs ys (omega arith) in
    let back = drop-append-le (p + length new) xs ys (omega arith) in
    rw (front, back) (sym (append_assoc (take p xs ++ new) (drop (p + length new) xs) ys))

pub drop-right : {X : Type 0} (n p : ℕ) (xs ys : List X) → length xs ≡ n → drop (n + p) (xs ++ ys) ≡ drop p ys
drop-right n p xs ys long = sym (drop-drop p n (xs ++ ys)) ∙ ap (drop p) (drop_at xs ys n long)

pub take-right : {X : Type 0} (n p : ℕ) (xs ys : List X) → length xs ≡ n → take (n + p) (xs ++ ys) ≡ xs ++ take p ys
take-right n p xs ys long = same_lists _ _ (search (rules, places)) (λ i d h. grind (arith, places))

-- a field of the second list
pub with_field-right : (n p : ℕ) (new xs ys : List ℕ) → length xs ≡ n → with_field (n + p) new (xs ++ ys) ≡ xs
    ++ with_field p new ys
with_field-right n p new xs ys long =
    let front = take-right n p xs ys long in
    let sum : n + p + length new ≡ n + (p + length new) = omega arith in
    let back = ap (λ k. drop k (xs ++ ys)) sum ∙ drop-right n (p + length new) xs ys long in
    rw (front, back) (ap (λ zs. zs ++ drop (p + length new) ys) (append_assoc xs (take p ys) new)
    ∙ append_assoc xs (take p ys ++ new) (drop (p + length new) ys))

pub field-left : (p n : ℕ) (xs ys : List ℕ) → p + n ≤ length xs → field p n (xs ++ ys) ≡ field p n xs
field-left p n xs ys fits =
    ap (take n) (drop-append-le p xs ys (omega arith))
    ∙ take-append-le n (drop p xs) ys (omega (arith, length-drop p xs))

pub field-take : (p n size : ℕ) (xs : List ℕ) → p + n ≤ size → field p n (take size xs) ≡ field p n xs
field-take p n size xs fits = same_lists _ _ (search (rules, places)) (λ i d h. grind (arith, places))
