-- Bytes are written in one block of a chain.
use Rattle.std.proofs.Common.{◌≡◌, ◌≢◌, ℕ, ◌+◌, ◌-◌, ◌*◌, ◌%◌, ◌<◌, ◌≤◌, List, ◌++◌, length, get_or, take, drop, cond}
use Rattle.std.proofs.Common.{Option, Some, None, is_some, IsSome, refl, sym, ap, ◌∙◌, inl, inr, arith, rules}
use Rattle.std.proofs.Common.{length-append, length-take, length-drop}
use Rattle.std.proofs.lemmas.Bool.{cases_eq}
use Rattle.std.proofs.lemmas.List.{same_lists, places, take_at}
use Rattle.std.proofs.lemmas.List.Sums.{sum_by-set}
use Rattle.slab.specs.Slab.{Slab, get, slab_len, ContainsKey, with_value}
use Rattle.slab.proofs.SlabLemmas.{ContainsKey-within, Updates-with_value}
use Rattle.njh_record.specs.Bytes.{with_field}
use Rattle.njh_spool.specs.declared.store.spool_block.SpoolBlock.{SpoolBlock}
use Rattle.njh_spool.specs.declared.store.chain_ends.ChainEnds.{ChainEnds}
use Rattle.njh_spool.specs.code.Chains.{blocks_for}
use Rattle.njh_spool.specs.code.ChainedBlocks.{link_in, data_in, blocks_in, next_at, data_at, blocks_at, keys_of}
use Rattle.njh_spool.specs.code.ChainedBlocks.{keys_from, data_of, chain_of, times_in, IsChained}
use Rattle.njh_spool.proofs.ChainKeys.{keys_from-same, data_of-put, length-keys_from}
use Rattle.njh_spool.proofs.ChainMoves.{Moves}
use Rattle.njh_spool.proofs.ChainLaws.{once_here, block_here, has_here, full_here, last_here, key_lies, length_data}
use Rattle.njh_spool.proofs.ChainLaws.{blocks_for_is, blocks_for-bounds}

counts_one : (o : Option SpoolBlock) → IsSome o → cond {A = ℕ} (is_some o) 1 0 ≡ 1
counts_one (Some block) has = refl
counts_one None has = search rules

pub slab_len-with_value : (s : Slab SpoolBlock) (key : ℕ) (block : SpoolBlock) → ContainsKey s key
    → slab_len (with_value s key block) ≡ slab_len s
slab_len-with_value s key block has =
    let sum = sum_by-set (λ (o : Option SpoolBlock). cond {A = ℕ} (is_some o) 1 0) s.slots key (Some block) None
    (ContainsKey-within s key has) in
    let was = counts_one (get s key) has in
    omega arith

pub length-with_field : (place : ℕ) (new bytes : List ℕ) → place + length new ≤ length bytes →
    length (with_field place new bytes) ≡ length bytes
length-with_field place new bytes fits =
    omega (
      arith,
      length-append (take place bytes ++ new) (drop (place + length new) bytes),
      length-append (take place bytes) new,
      length-take place bytes,
      length-drop (place + length new) bytes,
    )

-- bytes written within a string, or at its end
pub take-with_field : (size place : ℕ) (new bytes : List ℕ) → place + length new ≤ size → size ≤ length bytes →
    take size (with_field place new bytes) ≡ with_field place new (take size bytes)
take-with_field size place new bytes fits within =
    same_lists _ _ (search (rules, places)) (λ i d h. grind (arith, places))

pub take-with_field_end : (size : ℕ) (new bytes : List ℕ) → size ≤ length bytes → take (size + length new)
    (with_field size new bytes) ≡ take size bytes ++ new
take-with_field_end size new bytes within =
    take_at (take size bytes ++ new) (drop (size + length new) bytes) (size + length new)
    (omega (arith, length-append (take size bytes) new, length-take size bytes))

module _ (s : Slab SpoolBlock) (chains : List ChainEnds) (i capacity : ℕ) (ends : ChainEnds)
    (chained : IsChained s chains capacity)
    (within : i < length chains) (is : get_or chains i ends ≡ ends) (key b place len : ℕ) (bytes : List ℕ)
    (inside : b < blocks_for ends.len) (at : get_or (keys_of s ends) b 0 ≡ key) (fits : place + length bytes ≤ 252)
    (count : blocks_for len ≡ blocks_for ends.len) where
  abbrev written : SpoolBlock
  written = record { bytes = with_field place bytes (data_at s key); next = next_at s key }

  abbrev new : ChainEnds
  new = record { head = ends.head; last = ends.last; len = len }

  abbrev t : Slab SpoolBlock
  t = with_value s key written

  pub has_key : ContainsKey s key
  has_key =
      has_here s chains i capacity ends chained within is key
      (key_lies s chains i capacity ends chained within is b key inside at)

  found : get t key ≡ Some written
  found = (Updates-with_value s key written has_key).changed

  others : (k : ℕ) → k ≢ key → get t k ≡ get s k
  others = (Updates-with_value s key written has_key).others

  one_block : blocks_at s key ≡ 1
  one_block =
      block_here s chains i capacity ends chained within is key
      (key_lies s chains i capacity ends chained within is b key inside at)

  long : length (data_at s key) ≡ 252
  long = full_here s chains i capacity ends chained within is key
      (key_lies s chains i capacity ends chained within is b key inside at)

  next_same : (k : ℕ) → next_at t k ≡ next_at s k
  next_same k =
      elim (cases_eq k key) [
        | inl here ↦ ap link_in (ap (get t) here ∙ found) ∙ ap (next_at s) (sym here)
        | inr differ ↦ ap link_in (others k differ)
      ]

  blocks_same : (k : ℕ) → blocks_at t k ≡ blocks_at s k
  blocks_same k =
      elim (cases_eq k key) [
        | inl here ↦ ap blocks_in (ap (get t) here ∙ found) ∙ sym one_block ∙ ap (blocks_at s) (sym here)
        | inr differ ↦ ap blocks_in (others k differ)
      ]

  full : (k : ℕ) → length (data_at t k) ≡ 252 * blocks_at t k
  full k =
      elim (cases_eq k key) [
        | inl here ↦
            let held : data_at t k ≡ with_field place bytes (data_at s key) = ap data_in (ap (get t) here ∙ found) in
            let size = ap length held in
            let one : blocks_at s k ≡ 1 = ap (blocks_at s) here ∙ one_block in
            omega (arith, long, length-with_field place bytes (data_at s key) (omega (arith, long)), blocks_same k)
        | inr differ ↦
            let held = ap (λ (o : Option SpoolBlock). length (data_in o)) (others k differ) in
            omega (arith, chained.full k, blocks_same k)
      ]

  keys_same : keys_of t new ≡ keys_of s ends
  keys_same = ap (λ n. keys_from t n ends.head) count
      ∙ keys_from-same s t (blocks_for ends.len) ends.head (λ k h. next_same k)

  pub moves_put : Moves s t ends new
  moves_put =
      record {
        same = λ k more.
            others k (λ here. omega (
              arith,
              one_block,
              ap (λ x. times_in x (keys_of s ends)) here,
              ap (blocks_at s) here,
              key_lies s chains i capacity ends chained within is b key inside at,
            ));
        once = λ k. omega (arith, blocks_same k, ap (times_in k) keys_same);
        counted = omega (arith, slab_len-with_value s key written has_key);
        full = full;
        last = λ some. ap (λ n. get_or (keys_of t new) (n - 1) 0) count
            ∙ ap (λ ks. get_or ks (blocks_for ends.len - 1) 0)
            keys_same ∙ last_here s chains i capacity ends chained within is (omega arith);
        capacity = refl;
      }

  pub chain_put : chain_of t new ≡ record {
    keys = keys_of s ends;
    bytes =
        take len (with_field (252 * b + place) bytes (data_of s (keys_of s ends)));
  }
  chain_put =
      let held = data_of-put s t (keys_of s ends) b key place bytes
      (omega (arith, length-keys_from s (blocks_for ends.len) ends.head)) at (once_here s chains i capacity ends chained
      within is key) (full_here s chains i capacity ends chained within is) fits (ap data_in found)
      (λ k differ. ap data_in (others k differ)) in
      ap (λ (ks : List ℕ). record { keys = ks; bytes = take len (data_of t ks) }) keys_same
      ∙ ap (λ (bs : List ℕ). record { keys = keys_of s ends; bytes = take len bs }) held

  -- at the string's end
  pub chain_extended : 252 * b + place ≡ ends.len → len ≡ ends.len + length bytes →
      chain_of t new ≡ record { keys = (chain_of s ends).keys; bytes = (chain_of s ends).bytes ++ bytes }
  chain_extended end longer =
      let old = data_of s (keys_of s ends) in
      let size = length_data s chains i capacity ends chained within is in
      chain_put
      ∙ ap (λ (n : ℕ). record { keys = keys_of s ends; bytes = take n (with_field (252 * b + place) bytes old) }) longer
      ∙ ap (λ (p : ℕ). record {
        keys = keys_of s ends;
        bytes =
            take (ends.len + length bytes) (with_field p bytes old);
      }) end
      ∙ ap (λ (bs : List ℕ). record { keys = keys_of s ends; bytes = bs })
      (take-with_field_end ends.len bytes old (omega (arith, blocks_for-bounds ends.len)))

  -- within the string
  pub chain_overwritten : 252 * b + place + length bytes ≤ ends.len → len ≡ ends.len →
      chain_of t new ≡ record {
        keys = (chain_of s ends).keys;
        bytes =
            with_field (252 * b + place) bytes (chain_of s ends).bytes;
      }
  chain_overwritten fits_string same =
      let old = data_of s (keys_of s ends) in
      let size = length_data s chains i capacity ends chained within is in
      chain_put
      ∙ ap (λ (n : ℕ). record { keys = keys_of s ends; bytes = take n (with_field (252 * b + place) bytes old) }) same
      ∙ ap (λ (bs : List ℕ). record { keys = keys_of s ends; bytes = bs })
      (take-with_field ends.len (252 * b + place) bytes old
      fits_string (omega (arith, blocks_for-bounds ends.len)))

-- where bytes go that the last block has room for
pub end_in_last : (size more : ℕ) → 0 < more → size + more ≤ 252 * blocks_for size →
    (252 * (blocks_for size - 1) + size % 252 ≡ size) × (size % 252 + more ≤ 252) × (0 < size) ×
    (blocks_for (size + more) ≡ blocks_for size)
end_in_last size more some room =
    (omega arith, omega arith, omega arith, blocks_for_is (size + more) (blocks_for size) room (omega arith))
