use Rattle.std.proofs.Common.{◌≡◌, ◌==◌, Bool, IsTrue, List, [], ◌∷◌, length, map, sym, subst, refl, arith}
use Rattle.std.proofs.lemmas.Grind.{common_steps}
use Rattle.njh_spoolfile.proofs.tables.has_no_terms.Goals as goal

none : {A B : Type 0} (f : A → B) (xs : List A) (ys : List B) (test : Bool) → map f xs ≡ ys → test ≡ (length xs == 0)
    → (IsTrue test → ys ≡ []) × (ys ≡ [] → IsTrue test)
none f [] ys test is tests = (λ _. sym is, λ _. subst IsTrue (sym tests) refl)
none f (x ∷ xs) ys test is tests = (λ yes. absurd (grind (arith, common_steps)), λ empty. absurd (cc))

pub returns : goal.returns
returns c = none _ c.in_ok-lent.lent.roots.now c.args.terms.now c.is_empty.result c.in_ok-lent.ensures
    c.is_empty.ensures
