-- One element more that is told.
use Rattle.std.proofs.Common.{◌≡◌, ℕ, ◌+◌, List, [], ◌∷◌, ◌++◌, take, get_or, Some, slice_get, sym, ap, ◌∙◌}
use Rattle.std.proofs.Common.{append_assoc, subst}
use Rattle.std.specs.List.{flat_map}
use Rattle.std.proofs.lemmas.List.{take_more, flat_map_more}
use Rattle.std.proofs.lemmas.Option.{slice_get_within, slice_get-get_or}
use Rattle.std.proofs.Math.Numerals.{add-one}
use Rattle.njh_check.specs.Warnings.{below}

-- of a list
pub told_more : {X : Type 0} (f : X → List ℕ) (xs : List X) (i : ℕ) (x : X) (front : List ℕ) → slice_get xs i ≡ Some x
    → (front ++ flat_map f (take i xs)) ++ f x ≡ front ++ flat_map f (take (i + 1) xs)
told_more f xs i x front here =
    let within = slice_get_within xs i x here in
    let same : get_or xs i x ≡ x = cc (sym (slice_get-get_or xs i x within) ∙ here) in
    flat_map_more f front (take i xs) x
    ∙ ap (λ ys. front ++ flat_map f ys) (sym (take_more xs i x within ∙ ap (λ y. take i xs ++ y ∷ []) same))

-- and one number more
pub below_more : (f : ℕ → List ℕ) (n : ℕ) (front : List ℕ) → (front ++ below f n) ++ f n ≡ front ++ below f (n + 1)
below_more f n front =
    subst (λ m. (front ++ below f n) ++ f n ≡ front ++ below f m) (sym (add-one n))
    (append_assoc front (below f n) (f n))

-- what is told of a list, of which the first is told
pub told_first : {X : Type 0} (f : X → List ℕ) (x : X) (more : List X) (front text new : List ℕ) → new ≡ front ++ text
    → text ≡ f x → new ++ flat_map f more ≡ front ++ flat_map f (x ∷ more)
told_first f x more front text new is same =
    ap (λ told. told ++ flat_map f more) (is ∙ ap (λ t. front ++ t) same)
    ∙ append_assoc front (f x) (flat_map f more)
