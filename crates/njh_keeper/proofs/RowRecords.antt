-- The records of a row: one at least.
use Rattle.std.proofs.Common.{◌≡◌, ◌≢◌, ℕ, zero, suc, ◌==◌, Bool, true, false, cond, List, []}
use Rattle.std.proofs.Common.{◌∷◌, length, Option, None, Some, refl, sym, ◌∙◌}
use Rattle.njh_spoolfile.specs.Packed.{first_packed, several, unpacked, unpacked_row, unpacked_up_to}

-- what stands behind the first, and all from the first on
abbrev behind : ℕ → List ℕ → List (ℕ × List ℕ)
behind most [] = []
behind most (b ∷ bs) = unpacked_up_to most (b ∷ bs)

abbrev from_first : ℕ → List ℕ → Option ((ℕ × List ℕ) × List ℕ) → List (ℕ × List ℕ)
from_first most bytes None = (several, bytes) ∷ []
from_first most bytes (Some first) = first.0 ∷ behind most first.1

step_is : (most : ℕ) (bytes : List ℕ) → unpacked_up_to (suc most) bytes ≡ from_first most bytes (first_packed bytes)
step_is most bytes = either (first_packed bytes)
  where
    either : (o : Option ((ℕ × List ℕ) × List ℕ)) → elim o [
      | None ↦ (several, bytes) ∷ []
      | Some first ↦ first.0 ∷ elim first.1 [ [] ↦ [] | b ∷ bs ↦ unpacked_up_to most first.1 ]
    ] ≡ from_first most bytes o
    either None = refl
    either (Some (r, [])) = refl
    either (Some (r, b ∷ bs)) = refl

some_up_to : (most : ℕ) (bytes : List ℕ) → unpacked_up_to most bytes ≢ []
some_up_to zero bytes = λ is. cc
some_up_to (suc most) bytes = λ is. either (first_packed bytes) (sym (step_is most bytes) ∙ is)
  where
    either : (o : Option ((ℕ × List ℕ) × List ℕ)) → from_first most bytes o ≢ []
    either None = λ is. cc
    either (Some first) = λ is. cc

-- at least one
pub a_row_has_records : (srcb : ℕ) (bytes : List ℕ) → unpacked_row srcb bytes ≢ []
a_row_has_records srcb bytes = either (srcb == several)
  where
    either : (b : Bool) → cond b (unpacked bytes) ((srcb, bytes) ∷ []) ≢ []
    either true = some_up_to (length bytes) bytes
    either false = λ is. cc
