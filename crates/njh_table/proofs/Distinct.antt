-- Names that differ.
use Rattle.std.proofs.Common.{◌≡◌, ◌≢◌, ℕ, ◌<◌, false, List, [], ◌∷◌, ◌++◌, length, get_or, bytes_eq, sym}
use Rattle.std.specs.List.{list_any}
use Rattle.std.proofs.lemmas.Bool.{both_ways}
use Rattle.std.proofs.lemmas.List.Folds.{list_any_at}
use Rattle.std.proofs.lemmas.List.Quantifiers.{all_pairs_push}
use Rattle.std.proofs.lemmas.Slice.Eq.{bytes_eq-Decides}
use Rattle.njh_table.specs.Accepted.{AreDistinct}

-- a name that isn't among others differs from each
pub differs : (name : List ℕ) (names : List (List ℕ)) → list_any (bytes_eq name) names ≡ false → (k : ℕ) (d : List ℕ)
    → k < length names → get_or names k d ≢ name
differs name names absent k d within same =
    both_ways (list_any (bytes_eq name) names) absent
    (list_any_at (bytes_eq name) names k d within ((bytes_eq-Decides name (get_or names k d)).1 (sym same)))

pub distinct_push : (names : List (List ℕ)) (name : List ℕ) → AreDistinct names → list_any (bytes_eq name) names ≡ false
    → AreDistinct (names ++ name ∷ [])
distinct_push names name distinct absent = all_pairs_push (λ a b. a ≢ b) names name distinct (differs name names absent)
