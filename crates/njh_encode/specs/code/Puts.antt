-- A file's records that go out one by one.
use Rattle.std.specs.Prelude.{◌≡◌, ℕ, List, ◌++◌}
use Rattle.njh_block.specs.Blocks.{Block, Item}
use Rattle.njh_encode.specs.declared.line_states.LineState.{LineState}
use Rattle.njh_encode.specs.Packing.{blocks_script, counted_by, packed}

-- what is kept of the line, and the records of the block that is open
pub record OpenBlock : Type 0 where
  pub state : LineState
  pub items : List Item

-- These records were put, whatever follows them: the blocks that are full went out.
pub record Puts (name : List ℕ) (old : OpenBlock) (items : List Item) (new : OpenBlock) (script grown : List ℕ) : Type
    0 where
  pub full : List Block
  pub blocks : (next : List Item) → packed old.state old.items (items ++ next) ≡ full ++ packed new.state new.items next
  pub counts : new.state ≡ counted_by full old.state
  pub lines : grown ≡ script ++ blocks_script name full
