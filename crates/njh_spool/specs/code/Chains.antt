-- What a store of byte strings is to its callers: a string and the keys of its blocks for each chain.
use Rattle.std.specs.Prelude.{◌≡◌, ℕ, ◌+◌, ◌*◌, ◌/◌, ◌<◌, ◌≤◌, List, [], ◌++◌, length, take, sum_by, slice_get}
use Rattle.std.specs.Prelude.{slice_set, slice_index_or, Some}
use Rattle.njh_spool.specs.declared.store.chain_block.ChainBlock.{ChainBlock}

-- a string, and the keys of the blocks that it lies in, in order
pub record Chain : Type 0 where
  pub keys : List ℕ
  pub bytes : List ℕ

pub record StoreValue : Type 0 where
  pub capacity : ℕ  -- blocks
  pub chains : List Chain

abbrev pub empty_chain : Chain
empty_chain = record { keys = []; bytes = [] }

-- a chain by its number
abbrev pub chain_at : ℕ → StoreValue → Chain
chain_at chain store = slice_index_or store.chains chain empty_chain

-- the store with another chain in the place of one
abbrev pub with_chain : ℕ → Chain → StoreValue → StoreValue
with_chain chain changed store = record store { chains = slice_set store.chains chain changed }

-- the store with another string in a chain, in the same blocks
abbrev pub with_bytes : ℕ → List ℕ → StoreValue → StoreValue
with_bytes chain bytes store = with_chain chain (record { keys = (chain_at chain store).keys; bytes = bytes }) store

-- the least number of blocks of 252 bytes that hold so many
abbrev pub blocks_for : ℕ → ℕ
blocks_for size = (size + 251) / 252

abbrev pub blocks_of : List ℕ → ℕ
blocks_of bytes = blocks_for (length bytes)

-- how many blocks the strings take together
abbrev pub blocks_used : StoreValue → ℕ
blocks_used store = sum_by (λ chain. blocks_of chain.bytes) store.chains

-- a string has grown at its end: its blocks are the old ones, and then others, and every other chain is as it was
pub record Grows (chain : ℕ) (bytes : List ℕ) (old new : StoreValue) : Type 0 where
  pub after : new
      ≡ with_chain chain (record { keys = (chain_at chain new).keys; bytes = (chain_at chain old).bytes ++ bytes }) old
  pub keys : take (length (chain_at chain old).keys) (chain_at chain new).keys ≡ (chain_at chain old).keys

-- a block of a chain, by its index and key; the first block's key is known without
abbrev pub IsBlockOf : List ℕ → ChainBlock → Type 0
IsBlockOf keys block = 0 < block.index → slice_get keys block.index ≡ Some block.key

-- the byte at a place lies in the block, or is the first after it
pub record IsNear (block : ChainBlock) (place : ℕ) : Type 0 where
  pub begins : 252 * block.index ≤ place
  pub ends : place ≤ 252 * block.index + 252
