-- Ports that differ, and sockets one by one.
use Rattle.std.proofs.Common.{◌≡◌, ℕ, ◌+◌, ◌<◌, Bool, false, List, [], ◌∷◌, ◌++◌, length, map, get_or, take, sym, ap}
use Rattle.std.proofs.Common.{subst, ◌∙◌}
use Rattle.std.specs.List.{list_any}
use Rattle.std.proofs.lemmas.List.{map-append, take_more}
use Rattle.std.proofs.lemmas.List.Folds.{list_any_at}
use Rattle.std.proofs.lemmas.List.Quantifiers.{all_pairs_push}
use Rattle.std.proofs.lemmas.Bool.{both_ways, false_from_ne_true}
use Rattle.njh_sites.specs.declared.endpoints.Endpoint.{Endpoint}
use Rattle.njh_sites.specs.Opened.{IsApart, is_same_port}

none_passes : {X : Type 0} (test : X → Bool) (xs : List X) → list_any test xs ≡ false
    → (k : ℕ) (d : X) → k < length xs → test (get_or xs k d) ≡ false
none_passes test xs none k d within =
    false_from_ne_true (test (get_or xs k d))
    (λ passes. both_ways (list_any test xs) none (list_any_at test xs k d within passes))

-- ports that differ, and one more that is none of them
pub apart_more : (es : List Endpoint) (n : ℕ) (d : Endpoint) → n < length es → IsApart (take n es)
    → list_any (is_same_port (get_or es n d)) (take n es) ≡ false → IsApart (take (n + 1) es)
apart_more es n d within apart free =
    let e = get_or es n d in
    subst IsApart (sym (take_more es n d within))
    (all_pairs_push (λ before endpoint. is_same_port endpoint before ≡ false) (take n es) e apart
    (none_passes (is_same_port e) (take n es) free))

-- what a function gives of one item more
map_more : {X Y : Type 0} (f : X → Y) (xs : List X) (n : ℕ) (d : X) → n < length xs
    → map f (take (n + 1) xs) ≡ map f (take n xs) ++ f (get_or xs n d) ∷ []
map_more f xs n d within = ap (map f) (take_more xs n d within) ∙ map-append f (take n xs) (get_or xs n d ∷ [])

-- what was made of the items so far, and of one more
pub made_more : {X Y : Type 0} (f : X → Y) (xs : List X) (n : ℕ) (d : X) (so_far made : List Y) → n < length xs
    → so_far ≡ map f (take n xs) → made ≡ so_far ++ f (get_or xs n d) ∷ [] → made ≡ map f (take (n + 1) xs)
made_more {X} {Y} f xs n d so_far made within is one =
    one ∙ (ap (λ (ys : List Y). ys ++ f (get_or xs n d) ∷ []) is ∙ sym (map_more f xs n d within))
