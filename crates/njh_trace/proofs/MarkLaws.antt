-- Marks that are compared in two parts.
use Rattle.std.proofs.Common.{◌≡◌, ◌≢◌, ℕ, false, eq-eqb, List, [], ◌∷◌, ◌++◌, refl, sym, ap, ◌∙◌}
use Rattle.std.specs.Str.{bytes_eq}
use Rattle.std.proofs.lemmas.Bool.{false_from_ne_true}
use Rattle.std.proofs.lemmas.Slice.Eq.{bytes_eq-Decides}

bytes_eq-append : (name xs ys : List ℕ) → bytes_eq (name ++ xs) (name ++ ys) ≡ bytes_eq xs ys
bytes_eq-append [] xs ys = refl
bytes_eq-append (c ∷ name) xs ys = rw (eq-eqb c c refl) (bytes_eq-append name xs ys)

-- the name comes first
pub marked-some : (mark name rest direction : List ℕ) → mark ≡ name ++ rest
    → bytes_eq rest direction ≡ bytes_eq mark (name ++ direction)
marked-some mark name rest direction whole =
    sym (ap (λ (xs : List ℕ). bytes_eq xs (name ++ direction)) whole ∙ bytes_eq-append name rest direction)

-- it doesn't
pub marked-none : (mark name direction : List ℕ) → ((rest : List ℕ) → mark ≢ name ++ rest)
    → false ≡ bytes_eq mark (name ++ direction)
marked-none mark name direction other =
    sym (false_from_ne_true _ (λ same. other direction ((bytes_eq-Decides mark (name ++ direction)).0 same)))
