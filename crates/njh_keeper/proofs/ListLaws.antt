-- What holds of each of a list, of one place and the others, and of two lists side by side.
use Rattle.njh_keeper.proofs.Words
use Words.{◌≡◌, ◌<◌, ℕ, zero, suc, List, [], ◌∷◌, length, map, get_or, set, remove, refl, sym, ap, ◌∙◌, arith, ◌++◌}
use Words.{subst, get_or-map, length-map, AllByRecursion, AllZip, AllBeside, none_beside, one_beside}
pub use Rattle.sqlite_trees.proofs.ListLemmas.{all-map, all_both, all_from_map, all_of, all_weaker}

module _ {X : Type 0} (P : X → Type 0) where
  pub all_remove : (xs : List X) (i : ℕ) → AllByRecursion P xs → AllByRecursion P (remove xs i)
  all_remove [] zero all = tt
  all_remove [] (suc i) all = tt
  all_remove (y ∷ xs) zero all = all.1
  all_remove (y ∷ xs) (suc i) all = (all.0, all_remove xs i all.1)

  pub all_set : (xs : List X) (i : ℕ) (x : X) → AllByRecursion P (remove xs i) → P x → AllByRecursion P (set xs i x)
  all_set [] i x all one = tt
  all_set (y ∷ xs) zero x all one = (one, all)
  all_set (y ∷ xs) (suc i) x all one = (all.0, all_set xs i x all.1 one)

-- the place of one among what they are seen as
pub at_place : {X Y : Type 0} (f : X → Y) (xs : List X) (i : ℕ) (x : X) → i < length xs → x ≡ get_or xs i x
    → f x ≡ get_or (map f xs) i (f x)
at_place f xs i x there is = ap f is ∙ sym (get_or-map f xs i x (f x) there)

pub within_seen : {X Y : Type 0} (f : X → Y) (xs : List X) (i : ℕ) → i < length xs → i < length (map f xs)
within_seen f xs i there = let long = length-map xs f in omega (arith, long, there)

pub map-remove : {X Y : Type 0} (f : X → Y) (xs : List X) (i : ℕ) → map f (remove xs i) ≡ remove (map f xs) i
map-remove f [] zero = refl
map-remove f [] (suc i) = refl
map-remove f (x ∷ xs) zero = refl
map-remove f (x ∷ xs) (suc i) = ap (λ ys. f x ∷ ys) (map-remove f xs i)

pub all-set : {X : Type 0} (P : X → Type 0) (xs : List X) (i : ℕ) (x : X) → AllByRecursion P xs → P x
    → AllByRecursion P (set xs i x)
all-set P xs i x all one = all_set P xs i x (all_remove P xs i all) one

module _ {X Y : Type 0} where
  pub all_zip_weaker : (P : X → Type 0) (R S : X → Y → Type 0) → ((x : X) (y : Y) → P x → R x y → S x y)
      → (xs : List X) (ys : List Y) → AllByRecursion P xs → AllZip R xs ys → AllZip S xs ys
  all_zip_weaker P R S f [] [] each h = tt
  all_zip_weaker P R S f [] (y ∷ ys) each h = h
  all_zip_weaker P R S f (x ∷ xs) [] each h = h
  all_zip_weaker P R S f (x ∷ xs) (y ∷ ys) each h = (f x y each.0 h.0, all_zip_weaker P R S f xs ys each.1 h.1)

  -- one place changes, and of the others something else holds
  pub all_zip_changes : (P : X → Type 0) (R S : X → Y → Type 0) → ((x : X) (y : Y) → P x → R x y → S x y)
      → (xs : List X) (ys : List Y) (i : ℕ) (x : X) (y : Y)
      → AllByRecursion P (remove xs i) → AllZip R xs ys → S x y → AllZip S (set xs i x) (set ys i y)
  all_zip_changes P R S f [] [] i x y each h one = tt
  all_zip_changes P R S f [] (b ∷ ys) i x y each h one = absurd h
  all_zip_changes P R S f (a ∷ xs) [] i x y each h one = absurd h
  all_zip_changes P R S f (a ∷ xs) (b ∷ ys) zero x y each h one = (one, all_zip_weaker P R S f xs ys each h.1)
  all_zip_changes P R S f (a ∷ xs) (b ∷ ys) (suc i) x y each h one =
      (f a b each.0 h.0, all_zip_changes P R S f xs ys i x y each.1 h.1 one)

module _ {X Y Z : Type 0} where
  pub beside_lengths : (R : X → Y → Z → Type 0) (xs : List X) (ys : List Y) (zs : List Z) → AllBeside R xs ys zs
      → (length ys ≡ length xs) × (length zs ≡ length xs)
  beside_lengths R _ _ _ none_beside = (refl, refl)
  beside_lengths R _ _ _ (one_beside x y z xs ys zs one more) =
      let rest = beside_lengths R xs ys zs more in
      (ap suc rest.0, ap suc rest.1)

  -- ---- what holds of each

  pub beside_weaker : (P : X → Type 0) (R S : X → Y → Z → Type 0) → ((x : X) (y : Y) (z : Z) → P x → R x y z → S x y z)
      → (xs : List X) (ys : List Y) (zs : List Z) → AllByRecursion P xs → AllBeside R xs ys zs → AllBeside S xs ys zs
  beside_weaker P R S f _ _ _ each none_beside = none_beside
  beside_weaker P R S f _ _ _ each (one_beside x y z xs ys zs one more) =
      one_beside x y z xs ys zs (f x y z each.0 one) (beside_weaker P R S f xs ys zs each.1 more)

  -- ---- those at a place

  -- the second and the third at the place of the first
  pub record BesideAt (R : X → Y → Z → Type 0) (ys : List Y) (zs : List Z) (i : ℕ) (x : X) : Type 0 where
    pub second : Y
    pub third : Z
    pub second_there : i < length ys
    pub second_is : second ≡ get_or ys i second
    pub third_there : i < length zs
    pub third_is : third ≡ get_or zs i third
    pub holds : R x second third

  pub beside_at : (R : X → Y → Z → Type 0) (xs : List X) (ys : List Y) (zs : List Z) (i : ℕ) (x : X)
      → AllBeside R xs ys zs → i < length xs → x ≡ get_or xs i x → BesideAt R ys zs i x
  beside_at R _ _ _ i x none_beside there is = absurd (omega (arith, there))
  beside_at R _ _ _ zero x (one_beside a b c xs ys zs one more) there is = record {
    second = b;
    third = c;
    second_there = omega arith;
    second_is = refl;
    third_there = omega arith;
    third_is = refl;
    holds = subst (λ y. R y b c) (sym is) one;
  }
  beside_at R _ _ _ (suc i) x (one_beside a b c xs ys zs one more) there is =
      let rest = beside_at R xs ys zs i x more (omega (arith, there)) is in
      record {
        second = rest.second;
        third = rest.third;
        second_there = omega (arith, rest.second_there);
        second_is = rest.second_is;
        third_there = omega (arith, rest.third_there);
        third_is = rest.third_is;
        holds = rest.holds;
      }

  -- ---- they change

  pub beside_push : (R : X → Y → Z → Type 0) (xs : List X) (ys : List Y) (zs : List Z) (x : X) (y : Y) (z : Z)
      → AllBeside R xs ys zs → R x y z → AllBeside R (xs ++ x ∷ []) (ys ++ y ∷ []) (zs ++ z ∷ [])
  beside_push R _ _ _ x y z none_beside one = one_beside x y z [] [] [] one none_beside
  beside_push R _ _ _ x y z (one_beside a b c xs ys zs first more) one =
      one_beside a b c (xs ++ x ∷ []) (ys ++ y ∷ []) (zs ++ z ∷ []) first (beside_push R xs ys zs x y z more one)

  pub beside_remove : (R : X → Y → Z → Type 0) (xs : List X) (ys : List Y) (zs : List Z) (i : ℕ) → AllBeside R xs ys zs
      → AllBeside R (remove xs i) (remove ys i) (remove zs i)
  beside_remove R _ _ _ zero none_beside = none_beside
  beside_remove R _ _ _ (suc i) none_beside = none_beside
  beside_remove R _ _ _ zero (one_beside x y z xs ys zs one more) = more
  beside_remove R _ _ _ (suc i) (one_beside x y z xs ys zs one more) =
      one_beside x y z (remove xs i) (remove ys i) (remove zs i) one (beside_remove R xs ys zs i more)

  -- one place changes, and of the others something else holds
  pub beside_set : (P : X → Type 0) (R S : X → Y → Z → Type 0) → ((x : X) (y : Y) (z : Z) → P x → R x y z → S x y z)
      → (xs : List X) (ys : List Y) (zs : List Z) (i : ℕ) (x : X) (y : Y) (z : Z) → AllByRecursion P (remove xs i)
      → AllBeside R xs ys zs → S x y z → AllBeside S (set xs i x) (set ys i y) (set zs i z)
  beside_set P R S f _ _ _ i x y z each none_beside one = none_beside
  beside_set P R S f _ _ _ zero x y z each (one_beside a b c xs ys zs first more) one =
      one_beside x y z xs ys zs one (beside_weaker P R S f xs ys zs each more)
  beside_set P R S f _ _ _ (suc i) x y z each (one_beside a b c xs ys zs first more) one =
      one_beside a b c (set xs i x) (set ys i y) (set zs i z) (f a b c each.0 first)
      (beside_set P R S f xs ys zs i x y z each.1 more one)
