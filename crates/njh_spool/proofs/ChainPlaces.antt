-- Where the blocks of a chain lie.
use Rattle.std.proofs.Common.{◌≡◌, ℕ, zero, suc, ◌+◌, ◌-◌, ◌*◌, ◌<◌, ◌≤◌, List, length, get_or, Option, Some, refl}
use Rattle.std.proofs.Common.{sym, ap}
use Rattle.std.proofs.Common.{◌∙◌, arith}
use Rattle.std.specs.Prelude.{slice_get}
use Rattle.std.proofs.lemmas.Option.{slice_get-get_or, get_or_from_slice_get}
use Rattle.slab.specs.Slab.{Slab, get, slab_len, ContainsKey}
use Rattle.njh_record.specs.Bytes.{field}
use Rattle.njh_spool.specs.declared.store.spool_block.SpoolBlock.{SpoolBlock}
use Rattle.njh_spool.specs.declared.store.chain_ends.ChainEnds.{ChainEnds}
use Rattle.njh_spool.specs.declared.store.BlockStore.TheInside.{Inside}
use Rattle.njh_spool.specs.code.Chains.{StoreValue, chain_at, blocks_for, blocks_used}
use Rattle.njh_spool.specs.code.ChainedBlocks.{link_in, data_in, next_at, keys_from, keys_of, data_of, chains_of}
use Rattle.njh_spool.specs.code.ChainedBlocks.{IsChained, empty_ends}
use Rattle.njh_spool.proofs.ChainLists.{field-take}
use Rattle.njh_spool.proofs.ChainKeys.{length-keys_from, field-data_of}
use Rattle.njh_spool.proofs.ChainLaws.{len_is, keys_is, bytes_is, head_here, last_here, has_here, full_here, key_lies}
use Rattle.njh_spool.proofs.ChainLaws.{ends_within, count_within, used_is}
use Rattle.std.proofs.lemmas.List.{get_or_default}

-- the key after one of a chain's
keys_from-next : (s : Slab SpoolBlock) (n key b : ℕ) → b + 1 < n → get_or (keys_from s n key) (b + 1) 0 ≡ next_at s
    (get_or (keys_from s n key) b 0)
keys_from-next s zero key b within = absurd (omega arith)
keys_from-next s (suc zero) key b within = absurd (omega arith)
keys_from-next s (suc (suc n)) key zero within = refl
keys_from-next s (suc (suc n)) key (suc b) within =
    let sum : suc b + 1 ≡ suc (b + 1) = omega arith in
    rw sum (keys_from-next s (suc n) (next_at s key) b (omega arith))

-- a call on a chain: what the store has inside, what it is seen as, and the chain's ends
pub record OnChain : Type 0 where
  pub inside : Inside
  pub value : StoreValue
  pub chain : ℕ
  pub ends : ChainEnds
  pub chained : IsChained inside.blocks inside.chains.items inside.capacity
  pub view : record { capacity = inside.capacity; chains = chains_of inside.blocks inside.chains.items } ≡ value
  pub within : chain < length inside.chains.items
  pub is : get_or inside.chains.items chain ends ≡ ends

abbrev pub on_ends : (inside : Inside) (value : StoreValue) (chain : ℕ) (ends : ChainEnds) →
    IsChained inside.blocks inside.chains.items inside.capacity →
    record { capacity = inside.capacity; chains = chains_of inside.blocks inside.chains.items } ≡ value →
    chain < length value.chains → get_or inside.chains.items chain ends ≡ ends → OnChain
on_ends inside value chain ends chained view held is =
    record {
      inside = inside;
      value = value;
      chain = chain;
      ends = ends;
      chained = chained;
      view = view;
      within = ends_within inside.blocks inside.chains.items inside.capacity chain value view held;
      is = is;
    }

abbrev pub on_chain : (inside : Inside) (value : StoreValue) (chain : ℕ) →
    IsChained inside.blocks inside.chains.items inside.capacity →
    record { capacity = inside.capacity; chains = chains_of inside.blocks inside.chains.items } ≡ value →
    chain < length value.chains → OnChain
on_chain inside value chain chained view held =
    let chains = inside.chains.items in
    let ends = get_or chains chain empty_ends in
    on_ends inside value chain ends chained view held (get_or_default chains chain ends empty_ends
    (ends_within inside.blocks chains inside.capacity chain value view held))

module _ (on : OnChain) where
  open on use {chain as i, ends, chained, within, is, view, value as store}
  open on use {inside.{blocks as s, capacity, chains.{items as chains}}}

  pub len_on : length (chain_at i store).bytes ≡ ends.len
  len_on = len_is s chains i capacity ends chained within is store view

  pub keys_on : (chain_at i store).keys ≡ keys_of s ends
  keys_on = keys_is s chains i capacity ends chained within is store view

  pub count_on : blocks_for ends.len ≤ capacity
  count_on = count_within s chains i capacity ends chained within is

  pub used_on : (blocks_used store ≡ slab_len s) × (store.capacity ≡ capacity)
  used_on = used_is s chains capacity store chained view

  pub last_key : 0 < ends.len → slice_get (chain_at i store).keys (blocks_for ends.len - 1) ≡ Some ends.last
  last_key some =
      ap (λ (keys : List ℕ). slice_get keys (blocks_for ends.len - 1)) keys_on
      ∙ slice_get-get_or (keys_of s ends) (blocks_for ends.len - 1) 0
      (omega (arith, length-keys_from s (blocks_for ends.len) ends.head))
      ∙ ap Some (last_here s chains i capacity ends chained within is some)

  -- the key of a block is that of the chain's value
  module _ (b : ℕ) (inside : 252 * b < length (chain_at i store).bytes) where
    pub few : b < blocks_for ends.len
    few = omega (arith, len_on)

    long : b < length (keys_of s ends)
    long = omega (arith, few, length-keys_from s (blocks_for ends.len) ends.head)

    pub first_key : b ≡ 0 → slice_get (chain_at i store).keys b ≡ Some ends.head
    first_key none =
        ap (λ (keys : List ℕ). slice_get keys b) keys_on
        ∙ slice_get-get_or (keys_of s ends) b 0 long
        ∙ ap Some (ap (λ n. get_or (keys_of s ends) n 0) none ∙ head_here s chains i capacity ends chained within is
        (omega (arith, len_on)))

    module _ (key : ℕ) (found : slice_get (chain_at i store).keys b ≡ Some key) where
      pub key_at : get_or (keys_of s ends) b 0 ≡ key
      key_at = get_or_from_slice_get (keys_of s ends) b key 0
          (sym (ap (λ (keys : List ℕ). slice_get keys b) keys_on) ∙ found)

      pub key_has : ContainsKey s key
      key_has =
          has_here s chains i capacity ends chained within is key
          (key_lies s chains i capacity ends chained within is b key few key_at)

      -- bytes of the string that lie in the block
      pub part_is : (at place n : ℕ) (block : SpoolBlock) → get s key ≡ Some block → 252 * b + at ≡ place →
          at + n ≤ 252 → place + n ≤ length (chain_at i store).bytes →
          field at n block.bytes ≡ field place n (chain_at i store).bytes
      part_is at place n block held begins fits_here inside_too =
          let size = len_on in
          ap (λ (o : Option SpoolBlock). field at n (data_in o)) (sym held)
          ∙ sym (field-data_of s (keys_of s ends) b key at n long key_at
          (full_here s chains i capacity ends chained within is) fits_here)
          ∙ ap (λ p. field p n (data_of s (keys_of s ends))) begins
          ∙ sym (field-take place n ends.len (data_of s (keys_of s ends)) (omega arith))
          ∙ ap (field place n) (sym (bytes_is s chains i capacity ends chained within is store view))

      -- the key of the block after it
      pub next_key : (block : SpoolBlock) → get s key ≡ Some block → 252 * b + 252 < length (chain_at i store).bytes →
          slice_get (chain_at i store).keys (b + 1) ≡ Some block.next
      next_key block at more =
          let size = len_on in
          let after : b + 1 < blocks_for ends.len = omega arith in
          ap (λ (keys : List ℕ). slice_get keys (b + 1)) keys_on
          ∙ slice_get-get_or (keys_of s ends) (b + 1) 0
          (omega (arith, length-keys_from s (blocks_for ends.len) ends.head))
          ∙ ap Some (keys_from-next s (blocks_for ends.len) ends.head b after ∙ ap (next_at s) key_at ∙ ap link_in at)
