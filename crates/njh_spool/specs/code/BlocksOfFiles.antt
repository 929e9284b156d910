-- In which file a block lies: the chain of number n of customer c stands at place_of c n.
use Rattle.std.specs.Prelude.{◌≡◌, ℕ, ◌<◌, List}
use Rattle.slab.specs.Slab.{Slab}
use Rattle.njh_table.specs.Limits.{max_files}
use Rattle.njh_spool.specs.declared.store.spool_block.SpoolBlock.{SpoolBlock}
use Rattle.njh_spool.specs.declared.store.chain_ends.ChainEnds.{ChainEnds}
use Rattle.njh_spool.specs.code.ChainedBlocks.{times_at}
use Rattle.njh_spool.specs.code.Slots.{place_of}

-- A key stands once among the blocks of one file of one customer, and among those of no other file.
pub record LiesInOneFile (blocks : Slab SpoolBlock) (chains : List ChainEnds) (customers key : ℕ) : Type 0 where
  pub customer : ℕ
  pub number : ℕ
  pub known : customer < customers
  pub small : number < max_files
  pub once : times_at blocks chains (place_of customer number) key ≡ 1
  pub others : (c n : ℕ) → c < customers → n < max_files → ((c ≡ customer) × (n ≡ number) → ⊥)
      → times_at blocks chains (place_of c n) key ≡ 0
