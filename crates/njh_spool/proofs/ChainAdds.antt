-- A block is added at the end of a chain.
use Rattle.std.proofs.Common.{◌≡◌, ◌≢◌, ℕ, zero, suc, ◌+◌, ◌-◌, ◌*◌, ◌<◌, ◌≤◌, List, [], ◌∷◌, ◌++◌, length, get_or}
use Rattle.std.proofs.Common.{take, replicate, cond, eqb, Option, Some, None, refl, sym, ap, ◌∙◌, inl, inr, arith}
use Rattle.std.proofs.Common.{length-append}
use Rattle.std.proofs.lemmas.Bool.{cases_eq}
use Rattle.std.proofs.lemmas.List.{append-nil, take_at, take_all, get_or_push, length-replicate}
use Rattle.std.proofs.lemmas.List.Concat.{flat_map-append, flat_map-cons}
use Rattle.std.proofs.lemmas.List.Sums.{sum_by_push}
use Rattle.slab.specs.Slab.{Slab, get, slab_len, ContainsKey, with_value, Updates}
use Rattle.slab.proofs.SlabLemmas.{Updates-with_value}
use Rattle.njh_spool.specs.declared.store.spool_block.SpoolBlock.{SpoolBlock}
use Rattle.njh_spool.specs.declared.store.chain_ends.ChainEnds.{ChainEnds}
use Rattle.njh_spool.specs.code.Chains.{blocks_for}
use Rattle.njh_spool.specs.code.ChainedBlocks.{link_in, data_in, blocks_in, data_at, blocks_at, keys_from, keys_of}
use Rattle.njh_spool.specs.code.ChainedBlocks.{data_of, chain_of, times_in, IsChained}
use Rattle.njh_spool.proofs.ChainLists.{take-right}
use Rattle.njh_spool.proofs.ChainKeys.{times-cons, one_itself, one_other, keys_from-linked, data_of-same}
use Rattle.njh_spool.proofs.ChainKeys.{length-keys_from}
use Rattle.njh_spool.proofs.ChainMoves.{Moves}
use Rattle.njh_spool.proofs.ChainLaws.{has_block, blocks_for_is, once_here, block_here, last_here, last_lies}
use Rattle.njh_spool.proofs.ChainLaws.{length_data}
use Rattle.njh_spool.proofs.ChainPuts.{slab_len-with_value}

-- a new block's data
abbrev pub block_with : List ℕ → ℕ → SpoolBlock
block_with bytes next = record { bytes = bytes ++ replicate (252 - length bytes) 0; next = next }

length-block_with : (bytes : List ℕ) → length bytes ≤ 252
    → length (bytes ++ replicate {A = ℕ} (252 - length bytes) 0) ≡ 252
length-block_with bytes short = omega (
  arith,
  length-append bytes (replicate {A = ℕ} (252 - length bytes) 0),
  length-replicate {A = ℕ} (252 - length bytes) 0,
)

-- a block is put in a vacant place
module _ (s t1 : Slab SpoolBlock) (k : ℕ) (bytes : List ℕ) (short : length bytes ≤ 252) (vacant : get s k ≡ None)
    (updates : Updates s t1 k (Some (block_with bytes 0))) (more : slab_len t1 ≡ slab_len s + 1)
    (room : t1.capacity ≡ s.capacity)
    (chains : List ChainEnds) (i capacity : ℕ) (ends : ChainEnds) (chained : IsChained s chains capacity)
    (within : i < length chains)
    (is : get_or chains i ends ≡ ends) (some : 0 < length bytes) where
  none_before : blocks_at s k ≡ 0
  none_before = ap blocks_in vacant

  -- the chain's first block
  module _ (empty : ends.len ≡ 0) where
    abbrev first : ChainEnds
    first = record { head = k; last = k; len = length bytes }

    no_keys : keys_of s ends ≡ []
    no_keys =
        let none : blocks_for ends.len ≡ zero = omega arith in
        ap (λ n. keys_from s n ends.head) none

    one_key : keys_of t1 first ≡ k ∷ []
    one_key = ap (λ n. keys_from t1 n k) (blocks_for_is (length bytes) (suc zero) (omega arith) (omega arith))

    pub moves_first : Moves s t1 ends first
    moves_first =
        record {
          same = λ key h. updates.others key (λ here. omega (arith, ap (blocks_at s) here, none_before));
          once = λ key.
              let old = ap (times_in key) no_keys in
              let new = ap (times_in key) one_key in
              elim (cases_eq key k) [
                | inl here ↦
                    let now = ap (λ x. blocks_at t1 x) here ∙ ap blocks_in updates.changed in
                    let was = ap (blocks_at s) here ∙ none_before in
                    let itself = ap (λ x. cond {A = ℕ} (eqb k x) 1 0) here ∙ one_itself k in
                    omega (arith, times-cons key k [])
                | inr differ ↦
                    let same = ap blocks_in (updates.others key differ) in
                    let other = one_other k key (λ e. differ (sym e)) in
                    omega (arith, times-cons key k [])
              ];
          counted = omega (arith, blocks_for_is (length bytes) 1 (omega arith) (omega arith));
          full = λ key.
              elim (cases_eq key k) [
                | inl here ↦
                    let found = ap (get t1) here ∙ updates.changed in
                    let one = ap blocks_in found in
                    let size = ap (λ (o : Option SpoolBlock). length (data_in o)) found in
                    omega (arith, length-block_with bytes short)
                | inr differ ↦
                    let found = updates.others key differ in
                    let one = ap blocks_in found in
                    let size = ap (λ (o : Option SpoolBlock). length (data_in o)) found in
                    omega (arith, chained.full key)
              ];
          last = λ h.
              let count : blocks_for (length bytes) - 1 ≡ 0 = omega arith in
              ap (λ n. get_or (keys_of t1 first) n 0) count ∙ ap (λ ks. get_or ks 0 0) one_key;
          capacity = room;
        }

    pub chain_first : chain_of t1 first ≡ record { keys = k ∷ []; bytes = bytes }
    chain_first =
        let pad = replicate {A = ℕ} (252 - length bytes) 0 in
        let held : data_of t1 (k ∷ []) ≡ bytes ++ pad = flat_map-cons (data_at t1) k [] ∙ append-nil (data_at t1 k)
        ∙ ap data_in updates.changed in
        ap (λ (ks : List ℕ). record { keys = ks; bytes = take (length bytes) (data_of t1 ks) }) one_key
        ∙ ap (λ (bs : List ℕ). record { keys = k ∷ []; bytes = bs })
        (ap (take (length bytes)) held ∙ take_at bytes pad (length bytes) refl)

  -- a block after the chain's last
  module _ (filled : ends.len ≡ 252 * blocks_for ends.len) (any : 0 < ends.len) where
    abbrev linked : SpoolBlock
    linked = record { bytes = data_at t1 ends.last; next = k }

    abbrev t : Slab SpoolBlock
    t = with_value t1 ends.last linked

    abbrev longer : ChainEnds
    longer = record { head = ends.head; last = k; len = ends.len + length bytes }

    last_one : blocks_at s ends.last ≡ 1
    last_one =
        block_here s chains i capacity ends chained within is ends.last
        (last_lies s chains i capacity ends chained within is any)

    last_apart : ends.last ≢ k
    last_apart same = omega (arith, last_one, none_before, ap (blocks_at s) same)

    last_kept : get t1 ends.last ≡ get s ends.last
    last_kept = updates.others ends.last last_apart

    pub has_last : ContainsKey t1 ends.last
    has_last = has_block (get t1 ends.last) (omega (arith, ap blocks_in last_kept, last_one))

    at_last : get t ends.last ≡ Some linked
    at_last = (Updates-with_value t1 ends.last linked has_last).changed

    at_new : get t k ≡ Some (block_with bytes 0)
    at_new = (Updates-with_value t1 ends.last linked has_last).others k (λ e. last_apart (sym e)) ∙ updates.changed

    at_other : (j : ℕ) → j ≢ k → j ≢ ends.last → get t j ≡ get s j
    at_other j apart before = (Updates-with_value t1 ends.last linked has_last).others j before ∙ updates.others j apart

    data_same : (j : ℕ) → j ≢ k → data_at t j ≡ data_at s j
    data_same j apart =
        elim (cases_eq j ends.last) [
          | inl here ↦ ap data_in (ap (get t) here ∙ at_last) ∙ ap data_in last_kept ∙ ap (data_at s) (sym here)
          | inr before ↦ ap data_in (at_other j apart before)
        ]

    blocks_same : (j : ℕ) → j ≢ k → blocks_at t j ≡ blocks_at s j
    blocks_same j apart =
        elim (cases_eq j ends.last) [
          | inl here ↦ ap blocks_in (ap (get t) here ∙ at_last) ∙ sym last_one ∙ ap (blocks_at s) (sym here)
          | inr before ↦ ap blocks_in (at_other j apart before)
        ]

    in_chain : (j : ℕ) → 0 < times_in j (keys_of s ends) → j ≢ k
    in_chain j h same =
        omega (arith, block_here s chains i capacity ends chained within is j h, none_before, ap (blocks_at s) same)

    keys_longer : keys_of t longer ≡ keys_of s ends ++ k ∷ []
    keys_longer =
        let m = blocks_for ends.len - 1 in
        let one : blocks_for ends.len ≡ suc m = omega arith in
        let two : blocks_for (ends.len + length bytes) ≡ suc (suc m) =
        blocks_for_is (ends.len + length bytes) (suc (suc m))
        (omega arith) (omega arith) in
        let last = ap (λ n. get_or (keys_from s n ends.head) m 0) (sym one)
        ∙ last_here s chains i capacity ends chained within is any in
        let times = λ (j : ℕ). ap (λ n. times_in j (keys_from s n ends.head)) one in
        ap (λ n. keys_from t n ends.head) two
        ∙ keys_from-linked s t m ends.head ends.last k last
        (omega (arith, times ends.last, once_here s chains i capacity ends chained within is ends.last))
        (ap link_in at_last)
        (λ j before h. ap link_in (at_other j (in_chain j (omega (arith, times j))) before))
        ∙ ap (λ n. keys_from s n ends.head ++ k ∷ []) (sym one)

    times_longer : (key : ℕ)
        → times_in key (keys_of t longer) ≡ times_in key (keys_of s ends) + cond {A = ℕ} (eqb k key) 1 0
    times_longer key = ap (times_in key) keys_longer
        ∙ sum_by_push (λ x. cond {A = ℕ} (eqb x key) 1 0) (keys_of s ends) k

    pub moves_next : Moves s t ends longer
    moves_next =
        record {
          same = λ key h.
              at_other key
              (λ here. omega (arith, ap (blocks_at s) here, none_before))
              (λ here. omega (
                arith,
                ap (blocks_at s) here,
                last_one,
                ap (λ x. times_in x (keys_of s ends)) here,
                last_lies s
                    chains i capacity ends chained within is any,
              ));
          once = λ key.
              elim (cases_eq key k) [
                | inl here ↦
                    let now = ap (λ x. blocks_at t x) here ∙ ap blocks_in at_new in
                    let was = ap (blocks_at s) here ∙ none_before in
                    let itself = ap (λ x. cond {A = ℕ} (eqb k x) 1 0) here ∙ one_itself k in
                    omega (arith, times_longer key)
                | inr differ ↦
                    let other = one_other k key (λ e. differ (sym e)) in
                    omega (arith, times_longer key, blocks_same key differ)
              ];
          counted =
              let two = blocks_for_is (ends.len + length bytes) (blocks_for ends.len + 1) (omega arith) (omega arith) in
              omega (arith, slab_len-with_value t1 ends.last linked has_last);
          full = λ key.
              elim (cases_eq key k) [
                | inl here ↦
                    let found = ap (get t) here ∙ at_new in
                    let one = ap blocks_in found in
                    let size = ap (λ (o : Option SpoolBlock). length (data_in o)) found in
                    omega (arith, length-block_with bytes short)
                | inr differ ↦
                    let size = ap length (data_same key differ) in
                    omega (arith, chained.full key, blocks_same key differ)
              ];
          last = λ h.
              let count : blocks_for (ends.len + length bytes) - 1 ≡ blocks_for ends.len =
              omega (
                arith,
                blocks_for_is (ends.len + length bytes) (blocks_for ends.len + 1) (omega arith)
                    (omega arith),
              ) in
              ap (λ n. get_or (keys_of t longer) n 0) count
              ∙ ap (λ ks. get_or ks (blocks_for ends.len) 0) keys_longer
              ∙ get_or_push (keys_of s ends) k 0 (blocks_for ends.len)
              (length-keys_from s (blocks_for ends.len) ends.head);
          capacity = room;
        }

    pub chain_next : chain_of t longer ≡ record {
      keys = keys_of s ends ++ k ∷ [];
      bytes = (chain_of s ends).bytes
          ++ bytes;
    }
    chain_next =
        let pad = replicate {A = ℕ} (252 - length bytes) 0 in
        let old = data_of s (keys_of s ends) in
        let long : length old ≡ ends.len = omega (arith, length_data s chains i capacity ends chained within is) in
        let front = data_of-same s t (keys_of s ends) (λ j h. data_same j (in_chain j h)) in
        let back : data_of t (k ∷ []) ≡ bytes ++ pad = flat_map-cons (data_at t) k [] ∙ append-nil (data_at t k)
        ∙ ap data_in at_new in
        let held : data_of t (keys_of s ends ++ k ∷ []) ≡ old ++ (bytes ++ pad) =
        flat_map-append (data_at t) (keys_of s ends) (k ∷ []) ∙ ap (λ xs. xs ++ data_of t (k ∷ [])) front
        ∙ ap (λ xs. old ++ xs) back in
        let taken : take (ends.len + length bytes) (old ++ (bytes ++ pad)) ≡ take ends.len old ++ bytes =
        take-right ends.len (length bytes) old (bytes ++ pad) long
        ∙ ap (λ xs. old ++ xs) (take_at bytes pad (length bytes) refl)
        ∙ ap (λ xs. xs ++ bytes) (sym (take_all ends.len old (omega arith))) in
        ap (λ (ks : List ℕ). record { keys = ks; bytes = take (ends.len + length bytes) (data_of t ks) }) keys_longer
        ∙ ap (λ (bs : List ℕ). record { keys = keys_of s ends ++ k ∷ []; bytes = bs })
        (ap (take (ends.len + length bytes)) held ∙ taken)
