-- What the invariant says of one chain.
use Rattle.std.proofs.Common.{◌≡◌, ℕ, zero, suc, ◌+◌, ◌-◌, ◌*◌, ◌<◌, ◌≤◌, List, [], ◌∷◌, length, get_or, take, map}
use Rattle.std.proofs.Common.{replicate, sum_by, Option, Some, None, IsSome, refl, sym, ap, subst, ◌∙◌}
use Rattle.std.proofs.Common.{inl, inr, arith, rules, length-take}
use Rattle.std.specs.List.{All}
use Rattle.std.proofs.lemmas.Bool.{cases_lt}
use Rattle.std.proofs.lemmas.List.{get_or-map, length-map, get_or_default}
use Rattle.std.proofs.lemmas.List.Sums.{sum_by-cons, get_or-le-sum_by}
use Rattle.slab.specs.Slab.{Slab, get, slab_len, ContainsKey}
use Rattle.njh_spool.specs.declared.store.spool_block.SpoolBlock.{SpoolBlock}
use Rattle.njh_spool.specs.declared.store.chain_ends.ChainEnds.{ChainEnds}
use Rattle.njh_spool.specs.code.Chains.{Chain, StoreValue, empty_chain, chain_at, blocks_for, blocks_of, blocks_used}
use Rattle.njh_spool.specs.code.ChainedBlocks.{blocks_in, data_at, blocks_at, keys_from, keys_of, data_of, chain_of}
use Rattle.njh_spool.specs.code.ChainedBlocks.{chains_of, times_in, empty_ends, KnowsLast, LiesInOne, IsChained}
use Rattle.njh_spool.proofs.ChainLists.{sum_by-same, sum_by-two}
use Rattle.njh_spool.proofs.ChainKeys.{length-keys_from, length-data_of, times_at}

pub blocks_in-le : (o : Option SpoolBlock) → blocks_in o ≤ 1
blocks_in-le (Some block) = omega arith
blocks_in-le None = omega arith

pub has_block : (o : Option SpoolBlock) → 0 < blocks_in o → IsSome o
has_block (Some block) some = search rules
has_block None some = absurd (omega arith)

pub from_block : (o : Option SpoolBlock) → IsSome o → blocks_in o ≡ 1
from_block (Some block) some = refl
from_block None some = search rules

-- so many bytes need so many blocks
pub blocks_for_is : (size blocks : ℕ) → size ≤ 252 * blocks → 252 * blocks < size + 252 → blocks_for size ≡ blocks
blocks_for_is size blocks fits least = omega arith

pub blocks_for-bounds : (size : ℕ) → (size ≤ 252 * blocks_for size) × (252 * blocks_for size < size + 252)
blocks_for-bounds size = (omega arith, omega arith)

module _ (s : Slab SpoolBlock) (chains : List ChainEnds) (i capacity : ℕ) (ends : ChainEnds)
    (chained : IsChained s chains capacity)
    (within : i < length chains) (is : get_or chains i ends ≡ ends) where
  lies : (key : ℕ) → times_in key (keys_of s ends) ≤ blocks_at s key
  lies key =
      let one = get_or-le-sum_by (λ x. times_in key (keys_of s x)) chains i ends within in
      let own = ap (λ x. times_in key (keys_of s x)) is in
      omega (arith, chained.once key)

  pub once_here : (key : ℕ) → times_in key (keys_of s ends) ≤ 1
  once_here key = omega (arith, lies key, blocks_in-le (get s key))

  pub block_here : (key : ℕ) → 0 < times_in key (keys_of s ends) → blocks_at s key ≡ 1
  block_here key h = omega (arith, lies key, blocks_in-le (get s key))

  pub has_here : (key : ℕ) → 0 < times_in key (keys_of s ends) → ContainsKey s key
  has_here key h = has_block (get s key) (omega (arith, lies key))

  pub full_here : (key : ℕ) → 0 < times_in key (keys_of s ends) → length (data_at s key) ≡ 252
  full_here key h = omega (arith, block_here key h, chained.full key)

  pub length_data : length (data_of s (keys_of s ends)) ≡ 252 * blocks_for ends.len
  length_data =
      omega (arith, length-data_of s (keys_of s ends) full_here, length-keys_from s (blocks_for ends.len) ends.head)

  pub length_bytes : length (chain_of s ends).bytes ≡ ends.len
  length_bytes =
      omega (arith, length-take ends.len (data_of s (keys_of s ends)), length_data, (blocks_for-bounds ends.len).0)

  pub chain_is : (store : StoreValue) → record { capacity = capacity; chains = chains_of s chains } ≡ store →
      chain_at i store ≡ chain_of s ends
  chain_is store view = ap (chain_at i) (sym view) ∙ get_or-map (chain_of s) chains i ends empty_chain within
      ∙ ap (chain_of s) is

  -- seen in the store's value
  module _ (store : StoreValue) (view : record { capacity = capacity; chains = chains_of s chains } ≡ store) where
    pub len_is : length (chain_at i store).bytes ≡ ends.len
    len_is = ap (λ (chain : Chain). length chain.bytes) (chain_is store view) ∙ length_bytes

    pub keys_is : (chain_at i store).keys ≡ keys_of s ends
    keys_is = ap (λ (chain : Chain). chain.keys) (chain_is store view)

    pub bytes_is : (chain_at i store).bytes ≡ take ends.len (data_of s (keys_of s ends))
    bytes_is = ap (λ (chain : Chain). chain.bytes) (chain_is store view)

  -- its blocks are within the capacity
  pub count_within : blocks_for ends.len ≤ capacity
  count_within =
      let one = get_or-le-sum_by (λ x. blocks_for x.len) chains i ends within in
      let own = ap (λ (x : ChainEnds). blocks_for x.len) is in
      omega (arith, chained.counted, chained.within)

  pub head_here : 0 < ends.len → get_or (keys_of s ends) 0 0 ≡ ends.head
  head_here some =
      let one : blocks_for ends.len ≡ suc (blocks_for ends.len - 1) = omega arith in
      ap (λ n. get_or (keys_from s n ends.head) 0 0) one

  -- the last block's key
  pub last_here : 0 < ends.len → get_or (keys_of s ends) (blocks_for ends.len - 1) 0 ≡ ends.last
  last_here some =
      let own : KnowsLast s ends = subst (KnowsLast s) is (chained.last i ends within) in
      own some

  pub last_lies : 0 < ends.len → 0 < times_in ends.last (keys_of s ends)
  last_lies some =
      let at = times_at (keys_of s ends) (blocks_for ends.len - 1)
      (omega (arith, length-keys_from s (blocks_for ends.len) ends.head)) in
      rw (last_here some) at at

  pub key_lies : (b key : ℕ) → b < blocks_for ends.len → get_or (keys_of s ends) b 0 ≡ key
      → 0 < times_in key (keys_of s ends)
  key_lies b key inside at =
      let h = times_at (keys_of s ends) b (omega (arith, length-keys_from s (blocks_for ends.len) ends.head)) in
      rw at at h

-- a chain of the store's value
pub ends_within : (s : Slab SpoolBlock) (chains : List ChainEnds) (capacity i : ℕ) (store : StoreValue) →
    record { capacity = capacity; chains = chains_of s chains } ≡ store → i < length store.chains → i < length chains
ends_within s chains capacity i store view within = omega (
  arith,
  ap (λ (x : StoreValue). length x.chains) view,
  length-map chains
      (chain_of s),
)

sum_by-map : {X Y : Type 0} (f : Y → ℕ) (g : X → Y) (xs : List X) → sum_by f (map g xs) ≡ sum_by (λ x. f (g x)) xs
sum_by-map f g [] = refl
sum_by-map f g (x ∷ xs) =
    omega (arith, sum_by-cons f (g x) (map g xs), sum_by-cons (λ y. f (g y)) x xs, sum_by-map f g xs)

-- the strings take as many blocks as the slab has
pub used_is : (s : Slab SpoolBlock) (chains : List ChainEnds) (capacity : ℕ) (store : StoreValue)
    → IsChained s chains capacity →
    record { capacity = capacity; chains = chains_of s chains } ≡ store → (blocks_used store ≡ slab_len s)
    × (store.capacity ≡ capacity)
used_is s chains capacity store chained view =
    let sum = sum_by-map (λ (chain : Chain). blocks_of chain.bytes) (chain_of s) chains in
    let same = sum_by-same (λ ends. blocks_of (chain_of s ends).bytes) (λ ends. blocks_for ends.len) chains empty_ends
    (λ j within. ap blocks_for (length_bytes s chains j capacity (get_or chains j empty_ends) chained within
    (get_or_default chains j (get_or chains j empty_ends) empty_ends within))) in
    let used = ap blocks_used view in
    (omega (arith, chained.counted), sym (ap (λ (x : StoreValue). x.capacity) view))

-- of chains with no byte yet
pub chains_of-empty : (s : Slab SpoolBlock) (count : ℕ)
    → chains_of s (replicate count empty_ends) ≡ replicate count empty_chain
chains_of-empty s zero = refl
chains_of-empty s (suc count) = ap (λ chains. empty_chain ∷ chains) (chains_of-empty s count)

pub sized_chains : (s : Slab SpoolBlock) (chains : List ChainEnds) (capacity : ℕ) → IsChained s chains capacity →
    All (λ ends. length (keys_of s ends) ≡ blocks_for ends.len) chains
sized_chains s chains capacity chained =
    λ k d within. length-keys_from s (blocks_for (get_or chains k d).len) (get_or chains k d).head

one_of : {X : Type 0} (f : X → ℕ) (xs : List X) (d : X) → sum_by f xs ≡ 1 → (i : ℕ) × (i < length xs)
    × (f (get_or xs i d) ≡ 1)
one_of f [] d one = absurd (omega arith)
one_of f (x ∷ xs) d one =
    elim (cases_lt 0 (f x)) [
      | inl some ↦ (0, omega arith, omega (arith, sum_by-cons f x xs))
      | inr none ↦
          let later = one_of f xs d (omega (arith, sum_by-cons f x xs)) in
          (suc later.0, omega (arith, later.1), later.2)
    ]

pub lies_in_one : (s : Slab SpoolBlock) (chains : List ChainEnds) (capacity : ℕ) → IsChained s chains capacity
    → (key : ℕ) → ContainsKey s key → LiesInOne s chains key
lies_in_one s chains capacity chained key has =
    let count = λ (ends : ChainEnds). times_in key (keys_of s ends) in
    let one = chained.once key ∙ from_block (get s key) has in
    let found = one_of count chains empty_ends one in
    record {
      chain = found.0;
      within = found.1;
      once = found.2;
      others = λ other inside differ. omega (
        arith,
        sum_by-two count chains found.0 other empty_ends found.1 inside
            differ,
        found.2,
      );
    }
