-- The law that a wire owes of what is withheld. An `impl` takes its proofs from specs/ alone, so it stands here.
use Rattle.std.proofs.Common.{ℕ, List}
use Rattle.njh_wire.specs.Standing.{Standing}
use Rattle.njh_wire.specs.Withheld.{IsWithheld, nothing, gives, drops, follows, stays}

-- no byte went out, and then none again
pub withheld_then : {C : Type 0} (moved : C → C → List ℕ → List ℕ → Type 0) {a b c : Standing C} →
    IsWithheld moved a b → IsWithheld moved b c → IsWithheld moved a c
withheld_then moved (nothing s) then = then
withheld_then moved (gives s last before after bytes connected moves more) then =
    gives s _ before after bytes connected moves (withheld_then moved more then)
withheld_then moved (drops s last parting end more) then = drops s _ parting end (withheld_then moved more then)
withheld_then moved (follows s last more) then = follows s _ (withheld_then moved more then)
withheld_then moved (stays s new last added same next leaves waits more) then =
    stays s new _ added same next leaves waits (withheld_then moved more then)
