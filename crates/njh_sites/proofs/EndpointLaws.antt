-- Tables' lines with sockets.
use Rattle.std.proofs.Common.{◌≡◌, ℕ, ◌+◌, ◌<◌, List, [], ◌∷◌, ◌++◌, length, get_or, take, Option, refl}
use Rattle.std.proofs.Common.{sym, ap, ◌∙◌}
use Rattle.std.specs.List.{filter_map, cons_option}
use Rattle.std.proofs.lemmas.List.{take_more}
use Rattle.std.proofs.lemmas.List.Elements.{filter_map-append}

-- what a function gives of one item more
pub filter_map_more : {X Y : Type 0} (h : X → Option Y) (xs : List X) (n : ℕ) (x : X)
    → n < length xs → x ≡ get_or xs n x
    → filter_map h (take (n + 1) xs) ≡ filter_map h (take n xs) ++ cons_option (h x) []
filter_map_more {X} h xs n x within at =
    let front : take (n + 1) xs ≡ take n xs ++ x ∷ [] =
    take_more xs n x within ∙ ap (λ (y : X). take n xs ++ y ∷ []) (sym at) in
    rw (front, filter_map-append) refl
