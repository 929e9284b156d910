-- A chain loses its first block.
use Rattle.std.proofs.Common.{◌≡◌, ◌≢◌, ℕ, zero, suc, ◌+◌, ◌-◌, ◌<◌, List, ◌∷◌, ◌++◌, length, get_or, take, drop, cond}
use Rattle.std.proofs.Common.{eqb, Option, Some, None, refl, sym, ap, ◌∙◌, inl, inr, arith, length-take}
use Rattle.std.proofs.lemmas.Bool.{cases_eq, cases_lt}
use Rattle.std.proofs.lemmas.List.{drop_all, drop_at}
use Rattle.std.proofs.lemmas.List.Concat.{flat_map-cons}
use Rattle.slab.specs.Slab.{Slab, get, slab_len, ContainsKey, Updates}
use Rattle.njh_spool.specs.declared.store.spool_block.SpoolBlock.{SpoolBlock}
use Rattle.njh_spool.specs.declared.store.chain_ends.ChainEnds.{ChainEnds}
use Rattle.njh_spool.specs.code.Chains.{blocks_for}
use Rattle.njh_spool.specs.code.ChainedBlocks.{link_in, data_in, blocks_in, next_at, data_at, blocks_at, keys_from}
use Rattle.njh_spool.specs.code.ChainedBlocks.{keys_of, data_of, chain_of, times_in, IsChained}
use Rattle.njh_spool.proofs.ChainLists.{take-right}
use Rattle.njh_spool.proofs.ChainKeys.{times-cons, one_itself, one_other, keys_from-same, data_of-same}
use Rattle.njh_spool.proofs.ChainMoves.{Moves}
use Rattle.njh_spool.proofs.ChainLaws.{blocks_for_is, once_here, has_here, full_here, last_here, head_here, key_lies}

get_or-rest : (k : ℕ) (rest : List ℕ) (m : ℕ) → 0 < m → get_or (k ∷ rest) m 0 ≡ get_or rest (m - 1) 0
get_or-rest k rest zero some = absurd (omega arith)
get_or-rest k rest (suc m) some =
    let one : suc m - 1 ≡ m = omega arith in
    rw one refl

-- the bytes behind the first block's
rest_of : (size : ℕ) (xs ys : List ℕ) → length xs ≡ 252 → drop 252 (take size (xs ++ ys)) ≡ take (size - 252) ys
rest_of size xs ys long =
    elim (cases_lt 252 size) [
      | inl more ↦
          let sum : size ≡ 252 + (size - 252) = omega arith in
          ap (λ n. drop 252 (take n (xs ++ ys))) sum ∙ ap (drop 252) (take-right 252 (size - 252) xs ys long)
          ∙ drop_at xs (take (size - 252) ys) 252 long
      | inr few ↦
          let none : size - 252 ≡ 0 = omega arith in
          drop_all 252 (take size (xs ++ ys)) (omega (arith, length-take size (xs ++ ys)))
          ∙ sym (ap (λ n. take n ys) none)
    ]

module _ (s t : Slab SpoolBlock) (chains : List ChainEnds) (i capacity : ℕ) (ends : ChainEnds)
    (chained : IsChained s chains capacity)
    (within : i < length chains) (is : get_or chains i ends ≡ ends) (any : 0 < ends.len) where
  pub head_lies : 0 < times_in ends.head (keys_of s ends)
  head_lies = key_lies s chains i capacity ends chained within is 0 ends.head (omega arith)
      (head_here s chains i capacity ends chained within is any)

  pub has_head : ContainsKey s ends.head
  has_head = has_here s chains i capacity ends chained within is ends.head head_lies

  module _ (first : SpoolBlock) (found : get s ends.head ≡ Some first) (updates : Updates s t ends.head None)
      (fewer : slab_len t + 1 ≡ slab_len s) (room : t.capacity ≡ s.capacity) where
    abbrev shorter : ChainEnds
    shorter = record { head = first.next; last = ends.last; len = ends.len - 252 }

    abbrev rest : List ℕ
    rest = keys_from s (blocks_for (ends.len - 252)) (next_at s ends.head)

    keys_first : keys_of s ends ≡ ends.head ∷ rest
    keys_first =
        let one : blocks_for ends.len ≡ suc (blocks_for (ends.len - 252)) = blocks_for_is ends.len
        (suc (blocks_for (ends.len - 252))) (omega arith) (omega arith) in
        ap (λ n. keys_from s n ends.head) one

    times_first : (key : ℕ) → times_in key (keys_of s ends) ≡ cond {A = ℕ} (eqb ends.head key) 1 0 + times_in key rest
    times_first key = ap (times_in key) keys_first ∙ times-cons key ends.head rest

    head_one : blocks_at s ends.head ≡ 1
    head_one = ap blocks_in found

    in_rest : (key : ℕ) → 0 < times_in key rest → key ≢ ends.head
    in_rest key h same =
        omega (
          arith,
          times_first ends.head,
          one_itself ends.head,
          once_here s chains i capacity ends chained within is ends.head,
          ap (λ x. times_in x rest) same,
        )

    keys_shorter : keys_of t shorter ≡ rest
    keys_shorter =
        ap (λ x. keys_from t (blocks_for (ends.len - 252)) x) (sym (ap link_in found))
        ∙ keys_from-same s t (blocks_for (ends.len - 252)) (next_at s ends.head)
        (λ k h. ap link_in (updates.others k (in_rest k h)))

    pub moves_rest : Moves s t ends shorter
    moves_rest =
        record {
          same = λ key h. updates.others key (λ here. omega (
            arith,
            head_one,
            ap (blocks_at s) here,
            ap
                (λ x. times_in x (keys_of s ends)) here,
            head_lies,
          ));
          once = λ key.
              let new = ap (times_in key) keys_shorter in
              elim (cases_eq key ends.head) [
                | inl here ↦
                    let now = ap (λ x. blocks_at t x) here ∙ ap blocks_in updates.changed in
                    let was = ap (blocks_at s) here ∙ head_one in
                    let itself = ap (λ x. cond {A = ℕ} (eqb ends.head x) 1 0) here ∙ one_itself ends.head in
                    omega (arith, times_first key)
                | inr differ ↦
                    let same = ap blocks_in (updates.others key differ) in
                    let other = one_other ends.head key (λ e. differ (sym e)) in
                    omega (arith, times_first key)
              ];
          counted =
              omega (arith, blocks_for_is ends.len (suc (blocks_for (ends.len - 252))) (omega arith) (omega arith));
          full = λ key.
              elim (cases_eq key ends.head) [
                | inl here ↦
                    let gone = ap (get t) here ∙ updates.changed in
                    let one = ap blocks_in gone in
                    let size = ap (λ (o : Option SpoolBlock). length (data_in o)) gone in
                    omega arith
                | inr differ ↦
                    let kept = updates.others key differ in
                    let one = ap blocks_in kept in
                    let size = ap (λ (o : Option SpoolBlock). length (data_in o)) kept in
                    omega (arith, chained.full key)
              ];
          last = λ some.
              let more : blocks_for ends.len - 1 ≡ blocks_for (ends.len - 252) =
              omega (arith, blocks_for_is ends.len (suc (blocks_for (ends.len - 252))) (omega arith) (omega arith)) in
              ap (λ ks. get_or ks (blocks_for (ends.len - 252) - 1) 0) keys_shorter
              ∙ sym (get_or-rest ends.head rest (blocks_for (ends.len - 252)) (omega arith))
              ∙ ap (λ n. get_or (ends.head ∷ rest) n 0) (sym more)
              ∙ ap (λ ks. get_or ks (blocks_for ends.len - 1) 0) (sym keys_first)
              ∙ last_here s chains i capacity ends chained within is any;
          capacity = room;
        }

    pub chain_rest : chain_of t shorter ≡ record {
      keys = drop 1 (keys_of s ends);
      bytes =
          drop 252 (chain_of s ends).bytes;
    }
    chain_rest =
        let long = full_here s chains i capacity ends chained within is ends.head head_lies in
        let kept = data_of-same s t rest (λ k h. ap data_in (updates.others k (in_rest k h))) in
        let all = ap (data_of s) keys_first ∙ flat_map-cons (data_at s) ends.head rest in
        let back = ap (λ xs. drop 252 (take ends.len xs)) all
        ∙ rest_of ends.len (data_at s ends.head) (data_of s rest) long in
        ap (λ (ks : List ℕ). record { keys = ks; bytes = take (ends.len - 252) (data_of t ks) }) keys_shorter
        ∙ ap (λ (bs : List ℕ). record { keys = rest; bytes = bs }) (ap (take (ends.len - 252)) kept ∙ sym back)
        ∙ ap (λ (ks : List ℕ). record { keys = drop 1 ks; bytes = drop 252 (chain_of s ends).bytes }) (sym keys_first)
