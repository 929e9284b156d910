-- Bytes in which no record is left.
use Rattle.std.proofs.Common.{◌≡◌, ℕ, List, [], Option, Some, None, Result, Ok, Err, refl, ◌∙◌, ap}
use Rattle.std.proofs.lemmas.Bool.{false≢true}
use Rattle.std.specs.Result.{IsOk}
use Rattle.njh_block.specs.declared.fault.BlockFault.{BlockFault}
use Rattle.njh_block.specs.Blocks.{Item, First, first_record, with_item, items_in}
use Rattle.njh_block.proofs.ReadingLaws.{items_from, items_in_step, items_or_none}

with_item-some : (i : Item) (read : Result (List Item) BlockFault) → IsOk (with_item i read)
    → items_or_none (with_item i read) ≡ [] → ⊥
with_item-some i (Ok items) ok none = cc
with_item-some i (Err e) ok none = false≢true ok

none_found : (found : Result (Option First) BlockFault) (onward : List ℕ → Result (List Item) BlockFault)
    → IsOk (items_from found onward) → items_or_none (items_from found onward) ≡ [] → found ≡ Ok None
none_found (Ok None) onward ok none = refl
none_found (Ok (Some x)) onward ok none = absurd (with_item-some x.item (onward x.rest) ok none)
none_found (Err e) onward ok none = absurd (false≢true ok)

pub none_left : (bytes : List ℕ) → IsOk (items_in bytes) → items_or_none (items_in bytes) ≡ []
    → first_record bytes ≡ Ok None
none_left bytes ok none =
    none_found (first_record bytes) items_in (rw (← items_in_step bytes) ok) (rw (← items_in_step bytes) none)

pub left_none : (bytes : List ℕ) → first_record bytes ≡ Ok None → items_or_none (items_in bytes) ≡ []
left_none bytes is =
    ap items_or_none (items_in_step bytes)
    ∙ ap (λ (f : Result (Option First) BlockFault). items_or_none (items_from f items_in)) is
