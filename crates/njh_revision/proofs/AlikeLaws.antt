-- Lists of which a front is known, with one item more.
use Rattle.std.proofs.Common.{◌≡◌, ℕ, ◌+◌, ◌<◌, List, [], ◌∷◌, ◌++◌, length, map, get_or, slice_get, take, Some, sym}
use Rattle.std.proofs.Common.{ap, ◌∙◌}
use Rattle.std.proofs.lemmas.List.{take_more, take-map}
use Rattle.std.proofs.lemmas.Option.{slice_get_within, slice_get-get_or, get_or_from_slice_get}

-- the item that is read
take_one : {X : Type 0} (xs : List X) (n : ℕ) (x : X) → slice_get xs n ≡ Some x
    → take (n + 1) xs ≡ take n xs ++ x ∷ []
take_one {X} xs n x at =
    take_more xs n x (slice_get_within xs n x at)
    ∙ ap (λ (y : X). take n xs ++ y ∷ []) (get_or_from_slice_get xs n x x at)

-- the same item in both
pub same_more : {X : Type 0} (xs ys : List X) (n : ℕ) (d : X) → n < length xs → slice_get ys n ≡ slice_get xs n
    → take n ys ≡ take n xs → take (n + 1) ys ≡ take (n + 1) xs
same_more {X} xs ys n d within same before =
    let x = get_or xs n d in
    let at = slice_get-get_or xs n d within in
    take_one ys n x (same ∙ at)
    ∙ (ap (λ (front : List X). front ++ x ∷ []) before
    ∙ sym (take_one xs n x at))

-- what a function gives of it is added at the end
pub push_map : {X Y : Type 0} (f : X → Y) (xs : List X) (n : ℕ) (y : Y) (before after : List Y)
    → slice_get (map f xs) n ≡ Some y → after ≡ before ++ y ∷ [] → before ≡ map f (take n xs)
    → after ≡ map f (take (n + 1) xs)
push_map {X} {Y} f xs n y before after at pushed so_far =
    pushed
    ∙ (ap (λ (front : List Y). front ++ y ∷ []) (so_far ∙ sym (take-map f n xs))
    ∙ (sym (take_one (map f xs) n y at)
    ∙ take-map f (n + 1) xs))
