-- The law that a wire owes of what it counts. An `impl` takes its proofs from specs/ alone, so it stands here.
use Rattle.std.proofs.Common.{◌≡◌, List, [], ◌∷◌, ◌++◌, refl, ap, ◌∙◌}
use Rattle.njh_turns.specs.Wires.{WireAct}
use Rattle.njh_wire.specs.Standing.{Standing}
use Rattle.njh_wire.specs.Tally.{Tally, tally, tally_by, tally_after, IsTallied}

-- some acts, and then more
tally_after-append : (t : Tally) (xs ys : List WireAct) → tally_after t (xs ++ ys) ≡ tally_after (tally_after t xs) ys
tally_after-append t [] ys = refl
tally_after-append t (x ∷ xs) ys = tally_after-append (tally_by x t) xs ys

-- a wire counts some acts, and then more
pub tallied_then : {C : Type 0} (a b c : Standing C) (xs ys : List WireAct) → IsTallied a b xs → IsTallied b c ys
    → IsTallied a c (xs ++ ys)
tallied_then a b c xs ys first then =
    tally_after-append (tally a) xs ys ∙ (ap (λ (t : Tally). tally_after t ys) first ∙ then)
