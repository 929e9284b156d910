-- What a search of a list finds.
use Rattle.std.proofs.Common.{◌≡◌, ℕ, zero, suc, ◌<◌, List, [], ◌∷◌}
use Rattle.std.proofs.Common.{length, get_or, map, Some, refl}
use Rattle.std.proofs.Common.{arith}
use Rattle.std.specs.Prelude.{slice_get, IsSomeAnd}

pub slice_get-map : {X : Type 0} (f : ℕ → X) (ns : List ℕ) (i : ℕ) → i < length ns
    → slice_get (map f ns) i ≡ Some (f (get_or ns i 0))
slice_get-map f [] i within = absurd (omega arith)
slice_get-map f (n ∷ ns) zero within = refl
slice_get-map f (n ∷ ns) (suc i) within = slice_get-map f ns i (omega arith)

pub within_some : {X : Type 0} (xs : List X) (i : ℕ) (P : X → Type 0) → IsSomeAnd (slice_get xs i) P → i < length xs
within_some [] i P some = absurd some
within_some (x ∷ xs) zero P some = omega arith
within_some (x ∷ xs) (suc i) P some = let rest = within_some xs i P some in omega arith
