-- Records in blocks.
use Rattle.std.proofs.Common.{◌≡◌, ℕ, Bool, true, false, List, [], ◌∷◌, ◌++◌, refl, sym, ap, ◌∙◌}
use Rattle.std.proofs.Common.{append_assoc, append-nil}
use Rattle.std.proofs.lemmas.Grind.{flat_map-append}
use Rattle.njh_block.specs.Blocks.{Block, Item}
use Rattle.njh_block.specs.Writing.{has_room}
use Rattle.njh_encode.specs.declared.line_states.LineState.{LineState}
use Rattle.njh_encode.specs.LineStates.{counted}
use Rattle.njh_encode.specs.Packing.{block_of, blocks_script, counted_by, packed, writing_on}
use Rattle.njh_encode.specs.code.Puts.{OpenBlock, Puts}

pub counted_by-append : (xs ys : List Block) (state : LineState)
    → counted_by (xs ++ ys) state ≡ counted_by ys (counted_by xs state)
counted_by-append [] ys state = refl
counted_by-append (x ∷ xs) ys state = counted_by-append xs ys (counted state)

pub Puts-none : (name : List ℕ) (at : OpenBlock) (script : List ℕ) → Puts name at [] at script script
Puts-none name at script = record { full = []; blocks = λ next. refl; counts = refl; lines = sym (append-nil script) }

-- records, and then others
pub Puts-then : (name : List ℕ) (a b c : OpenBlock) (xs ys : List Item) (s t u : List ℕ) → Puts name a xs b s t
    → Puts name b ys c t u
    → Puts name a (xs ++ ys) c s u
Puts-then name a b c xs ys s t u x y = record {
  full = x.full ++ y.full;
  blocks = λ next.
      ap (packed a.state a.items) (append_assoc xs ys next) ∙ x.blocks (ys ++ next)
      ∙ ap (λ (bs : List Block). x.full ++ bs) (y.blocks next)
      ∙ sym (append_assoc x.full y.full (packed c.state c.items next));
  counts =
      y.counts ∙ ap (counted_by y.full) x.counts ∙ sym (counted_by-append x.full y.full a.state);
  lines =
      y.lines ∙ ap (λ (text : List ℕ). text ++ blocks_script name y.full) x.lines
      ∙ append_assoc s (blocks_script name x.full) (blocks_script name y.full)
      ∙ ap (λ (text : List ℕ). s ++ text) (sym (flat_map-append _ x.full y.full));
}

-- a record that has none
pub Puts-next : (name : List ℕ) (a : OpenBlock) (item : Item) (script grown : List ℕ)
    → has_room (writing_on a.state a.items) item ≡ false
    → grown ≡ script ++ blocks_script name (block_of a.state a.items ∷ [])
    → Puts name a (item ∷ []) (record { state = counted a.state; items = item ∷ [] }) script grown
Puts-next name a item script grown none is = record {
  full = block_of a.state a.items ∷ [];
  blocks = λ next. ap (λ (t : Bool). elim t [
    | true ↦ packed a.state (a.items ++ item ∷ []) next
    | false ↦ block_of a.state a.items ∷ packed (counted a.state) (item ∷ []) next
  ]) none;
  counts = refl;
  lines = is;
}
