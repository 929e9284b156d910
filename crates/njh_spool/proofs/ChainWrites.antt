-- What the store is after bytes were written in a block, or a block was added.
use Rattle.std.proofs.Common.{◌≡◌, ℕ, ◌+◌, ◌-◌, ◌*◌, ◌%◌, ◌^◌, ◌<◌, ◌≤◌, List, ◌∷◌, [], ◌++◌, length, get_or, set, take}
use Rattle.std.proofs.Common.{Some, None, refl, sym, ap, subst, ◌∙◌, arith}
use Rattle.std.specs.Prelude.{slice_get}
use Rattle.std.proofs.lemmas.List.{set-get_or, take_at, nil_from_length}
use Rattle.slab.specs.Slab.{Slab, get, slab_len, ContainsKey, with_value, Updates}
use Rattle.njh_record.specs.Bytes.{with_field}
use Rattle.njh_spool.specs.declared.store.spool_block.SpoolBlock.{SpoolBlock}
use Rattle.njh_spool.specs.declared.store.chain_ends.ChainEnds.{ChainEnds}
use Rattle.njh_spool.specs.code.Chains.{Chain, Grows, chain_at, with_chain, with_bytes, blocks_for}
use Rattle.njh_spool.specs.code.Chains.{blocks_of}
use Rattle.njh_spool.specs.code.ChainedBlocks.{next_at, data_at, keys_of, chain_of, chains_of, IsChained}
use Rattle.njh_spool.proofs.ChainKeys.{length-keys_from}
use Rattle.njh_spool.proofs.ChainMoves.{chained_moved, view_moved, grows_from}
use Rattle.njh_spool.proofs.ChainLaws.{chain_is, count_within, last_here}
use Rattle.njh_spool.proofs.ChainPuts.{end_in_last, has_key, moves_put, chain_extended, chain_overwritten}
use Rattle.njh_spool.proofs.ChainPuts.{slab_len-with_value}
use Rattle.njh_spool.proofs.ChainAdds.{block_with, moves_first, chain_first, has_last, moves_next, chain_next}
use Rattle.njh_spool.proofs.ChainPlaces.{OnChain, len_on, keys_on, few, key_at}

-- a block with other bytes
abbrev pub put_in : Slab SpoolBlock → ℕ → ℕ → List ℕ → Slab SpoolBlock
put_in s key place bytes =
    with_value s key (record { bytes = with_field place bytes (data_at s key); next = next_at s key })

module _ (on : OnChain) where
  open on use {chain as i, ends, chained, within, is, view, value as store}
  open on use {inside.{blocks as s, capacity, chains.{items as chains}}}

  size : length (chain_at i store).bytes ≡ ends.len
  size = len_on on

  old : chain_at i store ≡ chain_of s ends
  old = chain_is s chains i capacity ends chained within is store view

  -- bytes in what the last block has left
  module _ (bytes : List ℕ) (some : 0 < length bytes) (room : length (chain_at i store).bytes + length
      bytes ≤ 252 * blocks_of
      (chain_at i store).bytes) where
    places : (252 * (blocks_for ends.len - 1) + ends.len % 252 ≡ ends.len) × (ends.len % 252 + length bytes ≤ 252) ×
        (0 < ends.len) × (blocks_for (ends.len + length bytes) ≡ blocks_for ends.len)
    places = end_in_last ends.len (length bytes) some (omega (arith, size))

    at_last : get_or (keys_of s ends) (blocks_for ends.len - 1) 0 ≡ ends.last
    at_last = last_here s chains i capacity ends chained within is places.2

    inside : blocks_for ends.len - 1 < blocks_for ends.len
    inside = omega (arith, places.2)

    pub last_has : ContainsKey s ends.last
    last_has = has_key s chains i capacity ends chained within is ends.last (blocks_for ends.len - 1) (ends.len % 252)
        (ends.len + length bytes) bytes inside at_last places.1 places.3

    pub fits_last : ends.len % 252 + length bytes ≤ 252
    fits_last = places.1

    pub fits_len : ends.len + length bytes < 2 ^ 32
    fits_len = omega (arith, size, count_within s chains i capacity ends chained within is, chained.small)

    pub extended : IsChained (put_in s ends.last (ends.len % 252) bytes)
        (set chains i (record { head = ends.head; last = ends.last; len = ends.len + length bytes })) capacity
    extended =
        let block : SpoolBlock =
        record { bytes = with_field (ends.len % 252) bytes (data_at s ends.last); next = next_at s ends.last } in
        chained_moved s _ chains i capacity ends _ chained within is
        (moves_put s chains i capacity ends chained within is ends.last (blocks_for ends.len - 1) (ends.len % 252)
        (ends.len + length bytes) bytes inside at_last places.1 places.3)
        (omega (arith, slab_len-with_value s ends.last block last_has, chained.within))

    pub view_extended : record {
      capacity = capacity;
      chains = chains_of (put_in s ends.last (ends.len % 252) bytes)
          (set chains i (record { head = ends.head; last = ends.last; len = ends.len + length bytes }));
    } ≡ with_bytes i
        ((chain_at i store).bytes ++ bytes) store
    view_extended =
        view_moved s _ chains i capacity ends _ chained within is
        (moves_put s chains i capacity ends chained within is ends.last (blocks_for ends.len - 1) (ends.len % 252)
        (ends.len + length bytes) bytes inside at_last places.1 places.3)
        store view
        ∙ ap (λ (x : Chain). with_chain i x store)
        (chain_extended s chains i capacity ends chained within is ends.last (blocks_for ends.len - 1) (ends.len % 252)
        (ends.len + length bytes) bytes inside at_last places.1 places.3 places.0 refl
        ∙ ap (λ (x : Chain). record { keys = x.keys; bytes = x.bytes ++ bytes }) (sym old))

  -- bytes over others in one block
  module _ (b key at place : ℕ) (bytes : List ℕ) (found_key : slice_get (chain_at i store).keys b ≡ Some key)
      (sum : 252 * b + at ≡ place) (fits : at + length bytes ≤ 252) (some : 0 < length bytes)
      (fits_here : place + length bytes ≤ length (chain_at i store).bytes) where
    inside_string : 252 * b < length (chain_at i store).bytes
    inside_string = omega arith

    here : get_or (keys_of s ends) b 0 ≡ key
    here = key_at on b inside_string key found_key

    near : b < blocks_for ends.len
    near = few on b inside_string

    pub overwritten : IsChained (put_in s key at bytes) chains capacity
    overwritten =
        let block : SpoolBlock = record { bytes = with_field at bytes (data_at s key); next = next_at s key } in
        let has = has_key s chains i capacity ends chained within is key b at ends.len bytes near here fits refl in
        let same : set chains i ends ≡ chains = ap (set chains i) (sym is) ∙ set-get_or chains i ends in
        subst (λ xs. IsChained (put_in s key at bytes) xs capacity) same
        (chained_moved s _ chains i capacity ends _ chained within is
        (moves_put s chains i capacity ends chained within is key b at ends.len bytes near here fits refl)
        (omega (arith, slab_len-with_value s key block has, chained.within)))

    pub view_overwritten : record { capacity = capacity; chains = chains_of (put_in s key at bytes) chains }
        ≡ with_bytes i
        (with_field place bytes (chain_at i store).bytes) store
    view_overwritten =
        let same : set chains i ends ≡ chains = ap (set chains i) (sym is) ∙ set-get_or chains i ends in
        ap (λ (xs : List ChainEnds). record { capacity = capacity; chains = chains_of (put_in s key at bytes) xs })
        (sym same)
        ∙ view_moved s _ chains i capacity ends _ chained within is
        (moves_put s chains i capacity ends chained within is key b at ends.len bytes near here fits refl)
        store view
        ∙ ap (λ (x : Chain). with_chain i x store)
        (chain_overwritten s chains i capacity ends chained within is key b at ends.len bytes near here fits refl
        (omega (arith, size)) refl
        ∙ ap (λ (p : ℕ). record { keys = (chain_of s ends).keys; bytes = with_field p bytes (chain_of s ends).bytes })
        sum
        ∙ ap (λ (x : Chain). record { keys = x.keys; bytes = with_field place bytes x.bytes }) (sym old))

  -- a block's bytes behind the others
  module _ (t1 : Slab SpoolBlock) (k : ℕ) (bytes : List ℕ) (some : 0 < length bytes) (short : length bytes ≤ 252)
      (vacant : get s k ≡ None) (updates : Updates s t1 k (Some (block_with bytes 0)))
      (more : slab_len t1 ≡ slab_len s + 1)
      (room : t1.capacity ≡ s.capacity) (free : slab_len s < capacity) where
    module _ (empty : ends.len ≡ 0) where
      pub begun : IsChained t1 (set chains i (record { head = k; last = k; len = length bytes })) capacity
      begun =
          chained_moved s t1 chains i capacity ends _ chained within is
          (moves_first s t1 k bytes short vacant updates more room chains i capacity ends chained within is some empty)
          (omega arith)

      pub grows_begun : i < length store.chains →
          Grows i bytes store (record {
            capacity = capacity;
            chains =
                chains_of t1 (set chains i (record { head = k; last = k; len = length bytes }));
          })
      grows_begun held =
          let now =
          view_moved s t1 chains i capacity ends _ chained within is (moves_first s t1 k bytes short vacant updates
          more room chains i capacity ends chained within is some empty) store view in
          let chain =
          chain_first s t1 k bytes short vacant updates more room chains i capacity ends chained within is some empty in
          let no_bytes = nil_from_length (chain_at i store).bytes (omega (arith, size)) in
          let keys = keys_on on in
          let no_keys = nil_from_length (chain_at i store).keys
          (omega (arith, ap length keys, length-keys_from s (blocks_for ends.len) ends.head)) in
          grows_from i bytes store _ (record { keys = k ∷ []; bytes = bytes }) held
          (now ∙ ap (λ (x : Chain). with_chain i x store) chain)
          (ap (λ (xs : List ℕ). xs ++ bytes) (sym no_bytes))
          (ap (λ (ks : List ℕ). take (length ks) (k ∷ [])) no_keys ∙ sym no_keys)

    module _ (filled : ends.len ≡ 252 * blocks_for ends.len) (any : 0 < ends.len) where
      abbrev linked_to : Slab SpoolBlock
      linked_to = with_value t1 ends.last (record { bytes = data_at t1 ends.last; next = k })

      pub has_last_block : ContainsKey t1 ends.last
      has_last_block =
          has_last s t1 k bytes short vacant updates more room chains i capacity ends chained within is some filled any

      pub fits_longer : ends.len + length bytes < 2 ^ 32
      fits_longer = omega (arith, count_within s chains i capacity ends chained within is, chained.small)

      pub linked : IsChained linked_to (set chains i (record
          { head = ends.head; last = k; len = ends.len + length bytes })) capacity
      linked =
          let block : SpoolBlock = record { bytes = data_at t1 ends.last; next = k } in
          chained_moved s _ chains i capacity ends _ chained within is
          (moves_next s t1 k bytes short vacant updates more room chains i capacity ends chained within is some filled
          any)
          (omega (arith, slab_len-with_value t1 ends.last block has_last_block))

      pub grows_linked : i < length store.chains →
          Grows i bytes store (record {
            capacity = capacity;
            chains =
                chains_of linked_to (set chains i (record
                { head = ends.head; last = k; len = ends.len + length bytes }));
          })
      grows_linked held =
          let now =
          view_moved s _ chains i capacity ends _ chained within is (moves_next s t1 k bytes short vacant updates more
          room chains i capacity ends chained within is some filled any) store view in
          let chain =
          chain_next s t1 k bytes short vacant updates more room chains i capacity ends chained within is some filled
          any in
          let keys = keys_on on in
          grows_from i bytes store _ (record {
            keys = keys_of s ends ++ k ∷ [];
            bytes = (chain_of s ends).bytes
                ++ bytes;
          }) held
          (now ∙ ap (λ (x : Chain). with_chain i x store) chain)
          (ap (λ (x : Chain). x.bytes ++ bytes) (sym old))
          (ap (λ (ks : List ℕ). take (length ks) (keys_of s ends ++ k ∷ [])) keys ∙ take_at (keys_of s ends) (k ∷ [])
          (length (keys_of s ends)) refl ∙ sym keys)
