-- The records of packed blocks.
use Rattle.std.proofs.Common.{◌≡◌, Bool, true, false, List, [], ◌∷◌, ◌++◌, ap, ◌∙◌, append_assoc}
use Rattle.std.proofs.lemmas.List.Concat.{flat_map-cons}
use Rattle.njh_block.specs.Blocks.{Block, Item}
use Rattle.njh_block.specs.Writing.{has_room}
use Rattle.njh_encode.specs.declared.line_states.LineState.{LineState}
use Rattle.njh_encode.specs.LineStates.{counted}
use Rattle.njh_encode.specs.Packing.{block_of, items_of_blocks, packed, writing_on}

order-cond : (t : Bool) (state : LineState) (begun : List Item) (i : Item) (is : List Item)
    → items_of_blocks (packed state (begun ++ i ∷ []) is) ≡ (begun ++ i ∷ []) ++ is
    → items_of_blocks (packed (counted state) (i ∷ []) is) ≡ i ∷ is
    → items_of_blocks
    (elim t [
      | true ↦ packed state (begun ++ i ∷ []) is
      | false ↦ block_of state begun ∷ packed (counted state) (i ∷ []) is
    ])
    ≡ begun ++ i ∷ is
order-cond true state begun i is fits next = fits ∙ append_assoc begun (i ∷ []) is
order-cond false state begun i is fits next =
    flat_map-cons (λ (b : Block). b.items) (block_of state begun) (packed (counted state) (i ∷ []) is)
    ∙ ap (λ (xs : List Item). begun ++ xs) next

-- those of the block that is open come first
pub packed_order : (is : List Item) (state : LineState) (begun : List Item)
    → items_of_blocks (packed state begun is) ≡ begun ++ is
packed_order [] state begun = flat_map-cons (λ (b : Block). b.items) (block_of state begun) []
packed_order (i ∷ is) state begun =
    order-cond (has_room (writing_on state begun) i) state begun i is (packed_order is state (begun ++ i ∷ []))
    (packed_order is (counted state) (i ∷ []))
