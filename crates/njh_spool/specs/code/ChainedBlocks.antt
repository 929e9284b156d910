-- How byte strings lie in the blocks of one slab, each block linked to the next of its chain.
use Rattle.std.specs.Prelude.{◌≡◌, ◌≢◌, ℕ, zero, suc, ◌-◌, ◌*◌, ◌<◌, ◌≤◌, ◌^◌, ◌==◌, List, [], ◌∷◌, length, map, take}
use Rattle.std.specs.Prelude.{count_by, sum_by, slice_index, slice_index_or, Option, Some, None}
use Rattle.std.specs.List.{flat_map, All}
use Rattle.slab.specs.Slab.{Slab, get, slab_len}
use Rattle.njh_spool.specs.declared.store.spool_block.SpoolBlock.{SpoolBlock}
use Rattle.njh_spool.specs.declared.store.chain_ends.ChainEnds.{ChainEnds}
use Rattle.njh_table.specs.Limits.{max_capacity}
use Rattle.njh_spool.specs.code.Chains.{Chain, blocks_for}

-- a block's link
abbrev pub link_in : Option SpoolBlock → ℕ
link_in (Some block) = block.next
link_in None = 0

-- its data bytes
abbrev pub data_in : Option SpoolBlock → List ℕ
data_in (Some block) = block.bytes
data_in None = []

-- how many blocks there are, one or none
abbrev pub blocks_in : Option SpoolBlock → ℕ
blocks_in (Some block) = 1
blocks_in None = 0

-- of the block at a key
abbrev pub next_at : Slab SpoolBlock → ℕ → ℕ
next_at blocks key = link_in (get blocks key)

abbrev pub data_at : Slab SpoolBlock → ℕ → List ℕ
data_at blocks key = data_in (get blocks key)

abbrev pub blocks_at : Slab SpoolBlock → ℕ → ℕ
blocks_at blocks key = blocks_in (get blocks key)

-- so many keys, the first and from each the one that its block is linked to
abbrev pub keys_from : Slab SpoolBlock → ℕ → ℕ → List ℕ
keys_from blocks zero key = []
keys_from blocks (suc more) key = key ∷ keys_from blocks more (next_at blocks key)

-- the data bytes at keys, in a row
abbrev pub data_of : Slab SpoolBlock → List ℕ → List ℕ
data_of blocks keys = flat_map (data_at blocks) keys

-- the ends of a chain with no byte
abbrev pub empty_ends : ChainEnds
empty_ends = record { head = 0; last = 0; len = 0 }

-- the keys of a chain's blocks
abbrev pub keys_of : Slab SpoolBlock → ChainEnds → List ℕ
keys_of blocks ends = keys_from blocks (blocks_for ends.len) ends.head

-- the chain between two ends
abbrev pub chain_of : Slab SpoolBlock → ChainEnds → Chain
chain_of blocks ends =
    record { keys = keys_of blocks ends; bytes = take ends.len (data_of blocks (keys_of blocks ends)) }

abbrev pub chains_of : Slab SpoolBlock → List ChainEnds → List Chain
chains_of blocks chains = map (chain_of blocks) chains

-- how many times a key stands in a list of keys
abbrev pub times_in : ℕ → List ℕ → ℕ
times_in key keys = count_by (λ k. k == key) keys

-- how many times a key stands in all chains together
abbrev pub times : Slab SpoolBlock → List ChainEnds → ℕ → ℕ
times blocks chains key = sum_by (λ ends. times_in key (keys_of blocks ends)) chains

-- how many times a key stands in one chain
abbrev pub times_at : Slab SpoolBlock → List ChainEnds → ℕ → ℕ → ℕ
times_at blocks chains chain key = times_in key (keys_of blocks (slice_index_or chains chain empty_ends))

-- a key stands once in exactly one chain
pub record LiesInOne (blocks : Slab SpoolBlock) (chains : List ChainEnds) (key : ℕ) : Type 0 where
  pub chain : ℕ
  pub within : chain < length chains
  pub once : times_at blocks chains chain key ≡ 1
  pub others : (other : ℕ) → other < length chains → other ≢ chain → times_at blocks chains other key ≡ 0

-- of a chain its last key is known
abbrev pub KnowsLast : Slab SpoolBlock → ChainEnds → Type 0
KnowsLast blocks ends = 0 < ends.len → slice_index (keys_of blocks ends) (blocks_for ends.len - 1) ≡ ends.last

pub record IsChained (blocks : Slab SpoolBlock) (chains : List ChainEnds) (capacity : ℕ) : Type 0 where
  -- each block that isn't vacant lies once in exactly one chain, and no vacant one in any
  pub once : (key : ℕ) → times blocks chains key ≡ blocks_at blocks key
  -- there are as many blocks as the strings need
  pub counted : slab_len blocks ≡ sum_by (λ ends. blocks_for ends.len) chains
  -- where they are fewer than the capacity, a vacant one is left
  pub within : slab_len blocks ≤ capacity
  pub room : capacity ≤ blocks.capacity
  pub full : (key : ℕ) → length (data_at blocks key) ≡ 252 * blocks_at blocks key
  pub last : All (KnowsLast blocks) chains
  pub small : capacity ≤ max_capacity
  pub keys_fit : blocks.capacity ≤ 2 ^ 32
