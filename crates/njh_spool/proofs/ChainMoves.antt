-- One chain changes, and every other chain is as it was.
use Rattle.std.proofs.Common.{◌≡◌, ◌≢◌, ℕ, ◌+◌, ◌-◌, ◌*◌, ◌<◌, ◌≤◌, List, ◌++◌, length, get_or, set, take, sym, ap}
use Rattle.std.proofs.Common.{subst, ◌∙◌, inl, inr, arith}
use Rattle.std.specs.List.{All}
use Rattle.std.proofs.lemmas.Bool.{cases_eq}
use Rattle.std.proofs.lemmas.List.{get_or-set_same, get_or-set_other, length-set, get_or_default}
use Rattle.std.proofs.lemmas.List.Sums.{sum_by-set}
use Rattle.slab.specs.Slab.{Slab, get, slab_len}
use Rattle.njh_spool.specs.declared.store.spool_block.SpoolBlock.{SpoolBlock}
use Rattle.njh_spool.specs.declared.store.chain_ends.ChainEnds.{ChainEnds}
use Rattle.njh_spool.specs.code.Chains.{Chain, StoreValue, Grows, empty_chain, chain_at, blocks_for, with_chain}
use Rattle.njh_spool.specs.code.ChainedBlocks.{link_in, data_in, data_at, blocks_at, keys_of, data_of, chain_of}
use Rattle.njh_spool.specs.code.ChainedBlocks.{chains_of, times_in, KnowsLast, IsChained}
use Rattle.njh_spool.proofs.ChainLists.{sum_by-two, sum_by-but, map-but}
use Rattle.njh_spool.proofs.ChainKeys.{keys_from-same, data_of-same}

-- what a change of one chain must be
pub record Moves (s t : Slab SpoolBlock) (old new : ChainEnds) : Type 0 where
  pub same : (key : ℕ) → times_in key (keys_of s old) < blocks_at s key → get t key ≡ get s key
  pub once : (key : ℕ) → blocks_at t key + times_in key (keys_of s old) ≡ blocks_at s key + times_in key (keys_of t new)
  pub counted : slab_len t + blocks_for old.len ≡ slab_len s + blocks_for new.len
  pub full : (key : ℕ) → length (data_at t key) ≡ 252 * blocks_at t key
  pub last : KnowsLast t new
  pub capacity : t.capacity ≡ s.capacity

pub chain_of-same : (s t : Slab SpoolBlock) (ends : ChainEnds)
    → ((k : ℕ) → 0 < times_in k (keys_of s ends) → get t k ≡ get s k) →
    chain_of t ends ≡ chain_of s ends
chain_of-same s t ends same =
    let keys = keys_from-same s t (blocks_for ends.len) ends.head (λ k h. ap link_in (same k h)) in
    let bytes = ap (λ (ks : List ℕ). data_of t ks) keys
    ∙ data_of-same s t (keys_of s ends) (λ k h. ap data_in (same k h)) in
    ap (λ (ks : List ℕ). record { keys = ks; bytes = take ends.len (data_of t (keys_of t ends)) }) keys
    ∙ ap (λ (bs : List ℕ). record { keys = keys_of s ends; bytes = take ends.len bs }) bytes

module _ (s t : Slab SpoolBlock) (chains : List ChainEnds) (i capacity : ℕ) (old new : ChainEnds)
    (chained : IsChained s chains capacity)
    (within : i < length chains) (is : get_or chains i old ≡ old) (moves : Moves s t old new) where
  others : (j : ℕ) → j < length chains → j ≢ i → (k : ℕ) → 0 < times_in k (keys_of s (get_or chains j old))
      → get t k ≡ get s k
  others j inside differ k lies =
      let both = sum_by-two (λ ends. times_in k (keys_of s ends)) chains i j old within inside differ in
      let own = ap (λ ends. times_in k (keys_of s ends)) is in
      moves.same k (omega (arith, chained.once k))

  keys_others : (j : ℕ) → j < length chains → j ≢ i → keys_of t (get_or chains j old) ≡ keys_of s (get_or chains j old)
  keys_others j inside differ =
      keys_from-same s t (blocks_for (get_or chains j old).len) (get_or chains j old).head
      (λ k h. ap link_in (others j inside differ k h))

  pub chains_of-moved : chains_of t (set chains i new) ≡ set (chains_of s chains) i (chain_of t new)
  chains_of-moved =
      map-but (chain_of t) (chain_of s) chains i new old (λ j inside differ. chain_of-same s t (get_or chains j old)
      (others j inside differ))

  last_moved : All (KnowsLast t) (set chains i new)
  last_moved = λ j e inside.
      let long : j < length chains = omega (arith, length-set chains i new) in
      elim (cases_eq j i) [
        | inl here ↦
            let found : get_or (set chains i new) j e ≡ new = ap (λ x. get_or (set chains i new) x e) here
            ∙ get_or-set_same chains
            i new e within in
            subst (KnowsLast t) (sym found) moves.last
        | inr differ ↦
            let found : get_or (set chains i new) j e ≡ get_or chains j old = get_or-set_other chains i j new e differ
            ∙ get_or_default chains j e old long in
            let keys = keys_others j long differ in
            let was = chained.last j old long in
            let now : KnowsLast t (get_or chains j old) =
            λ some. ap (λ ks. get_or ks (blocks_for (get_or chains j old).len - 1)
            0) keys ∙ was some in
            subst (KnowsLast t) (sym found) now
      ]

  pub chained_moved : slab_len t ≤ capacity → IsChained t (set chains i new) capacity
  chained_moved fits =
      record {
        once = λ key.
            let sum =
            sum_by-but (λ ends. times_in key (keys_of t ends)) (λ ends. times_in key (keys_of s ends)) chains i new old
            within (λ j inside differ. ap (times_in key) (keys_others j inside differ)) in
            let own = ap (λ ends. times_in key (keys_of s ends)) is in
            omega (arith, chained.once key, moves.once key);
        counted =
            let sum = sum_by-set (λ ends. blocks_for ends.len) chains i new old within in
            let own = ap (λ (ends : ChainEnds). blocks_for ends.len) is in
            omega (arith, chained.counted, moves.counted);
        within = fits;
        full = moves.full;
        last = last_moved;
        room = omega (arith, chained.room, moves.capacity);
        small = chained.small;
        keys_fit = omega (arith, chained.keys_fit, moves.capacity);
      }

  -- the value with the other chain
  pub view_moved : (store : StoreValue) → record { capacity = capacity; chains = chains_of s chains } ≡ store →
      record { capacity = capacity; chains = chains_of t (set chains i new) } ≡ with_chain i (chain_of t new) store
  view_moved store view =
      ap (λ (cs : List Chain). record { capacity = capacity; chains = cs }) chains_of-moved
      ∙ ap (with_chain i (chain_of t new)) view

-- what has grown, by its chain
pub grows_from : (i : ℕ) (bytes : List ℕ) (store now : StoreValue) (chain : Chain) → i < length store.chains →
    now ≡ with_chain i chain store → chain.bytes ≡ (chain_at i store).bytes ++ bytes
    → take (length (chain_at i store).keys)
    chain.keys ≡ (chain_at i store).keys → Grows i bytes store now
grows_from i bytes store now chain within is grown front =
    let here : chain_at i now ≡ chain = ap (chain_at i) is ∙ get_or-set_same store.chains i chain empty_chain within in
    record {
      after =
          is
          ∙ ap (λ (bs : List ℕ). with_chain i (record { keys = chain.keys; bytes = bs }) store) grown
          ∙ ap (λ (c : Chain). with_chain i (record { keys = c.keys; bytes = (chain_at i store).bytes ++ bytes }) store)
          (sym here);
      keys = ap (λ (c : Chain). take (length (chain_at i store).keys) c.keys) here ∙ front;
    }
