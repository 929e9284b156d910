-- Bytes that equal the next, as a mask of 16 of them tells.
use Rattle.std.proofs.Common.{◌≡◌, ◌≢◌, ℕ, ◌+◌, ◌%◌, ◌^◌, ◌<◌, ◌≤◌, Bool, not, cond, eqb, false, List, [], ◌∷◌, length}
use Rattle.std.proofs.Common.{take, drop, map, get_or, refl, sym, ap, ◌∙◌, arith, w8, length-take}
use Rattle.std.specs.List.{prefix_len}
use Rattle.std.specs.Simd.Lanes.{mask_l, top, zip2}
use Rattle.std.proofs.lemmas.Bool.{eqb-false, not-true}
use Rattle.std.proofs.lemmas.List.{get_or-drop, get_or-take, length-drop}
use Rattle.std.proofs.lemmas.List.Sums.{prefix_len-le-length, prefix_len_passes}
use Rattle.std.proofs.lemmas.Simd.{get_or-zip2, leading_from_mask_l, length-zip2, mask_l-mod, tops_compared}
use Rattle.std.proofs.lemmas.Simd.{trailing_mask_l}
use Rattle.std.specs.Int.Count.{count_trailing_zeros}
use Rattle.njh_record.specs.code.Written.{AreApart}

-- which of the first 16 bytes equal the next
abbrev pub pairs_of : List ℕ → List Bool
pairs_of bytes = zip2 eqb (take 16 bytes) (take 16 (drop 1 bytes))

map_same : (bs : List Bool) → map (λ b. b) bs ≡ bs
map_same [] = refl
map_same (b ∷ bs) = ap (λ (cs : List Bool). b ∷ cs) (map_same bs)

module _ (bytes : List ℕ) (long : 16 < length bytes) where
  length-pairs : length (pairs_of bytes) ≡ 16
  length-pairs =
      let front : length (take 16 bytes) ≡ 16 = omega (arith, length-take 16 bytes) in
      let next : length (take 16 (drop 1 bytes)) ≡ 16 =
      omega (arith, length-take 16 (drop 1 bytes), length-drop 1 bytes) in
      length-zip2 eqb (take 16 bytes) (take 16 (drop 1 bytes)) (front ∙ sym next) ∙ front

  -- so many come before the first that equals the next
  apart_before : (n : ℕ) → n ≡ prefix_len (λ b. not b) (pairs_of bytes) → (n ≤ 16) × AreApart n bytes
  apart_before n is = (
    omega (arith, is, length-pairs, prefix_len-le-length (λ b. not b) (pairs_of bytes)),
    λ k below.
        let within : k < 16 = omega (arith, is, length-pairs, prefix_len-le-length (λ b. not b) (pairs_of bytes)) in
        let passes = not-true (get_or (pairs_of bytes) k false)
        (prefix_len_passes (λ b. not b) (pairs_of bytes) k false (omega arith)) in
        let here = get_or-zip2 eqb (take 16 bytes) (take 16 (drop 1 bytes)) k 0 0 false
        (omega (arith, length-take 16 bytes))
        (omega (arith, length-take 16 (drop 1 bytes), length-drop 1 bytes)) in
        let apart = eqb-false (get_or (take 16 bytes) k 0) (get_or (take 16 (drop 1 bytes)) k 0) (sym here ∙ passes) in
        let next : get_or (take 16 (drop 1 bytes)) k 0 ≡ get_or bytes (k + 1) 0 =
        get_or-take 16 (drop 1 bytes) k 0 within
        ∙ (get_or-drop 1 bytes k 0 ∙ ap (λ j. get_or bytes j 0) (omega arith)) in
        λ same. apart (get_or-take 16 bytes k 0 within ∙ (same ∙ sym next)),
  )

  -- the mask as the processor has it
  pub mask_is : mask_l (map (top 7) (zip2 (λ a b. cond (eqb a b) 255 0) (take 16 bytes) (take 16 (drop 1 bytes)))) % 2 ^
      64
      ≡ mask_l (map (λ b. b) (pairs_of bytes))
  mask_is =
      ap (λ (ms : List Bool). mask_l ms % 2 ^ 64) (tops_compared w8 eqb (take 16 bytes) (take 16 (drop 1 bytes)))
      ∙ (mask_l-mod (pairs_of bytes) 64 (omega (arith, length-pairs)) ∙ ap mask_l (sym (map_same (pairs_of bytes))))

  pub apart_all : (mask : ℕ) → mask ≡ mask_l (map (λ b. b) (pairs_of bytes)) → mask ≡ 0 → AreApart 16 bytes
  apart_all mask is none = (apart_before 16
      (sym (leading_from_mask_l (λ b. b) (pairs_of bytes) (sym is ∙ none) ∙ length-pairs))).1

  pub apart_some : (mask : ℕ) → mask ≡ mask_l (map (λ b. b) (pairs_of bytes)) → mask ≢ 0
      → (count_trailing_zeros 64 mask ≤ 16) × AreApart (count_trailing_zeros 64 mask) bytes
  apart_some mask is some =
      apart_before (count_trailing_zeros 64 mask)
      (ap (count_trailing_zeros 64) is
      ∙ trailing_mask_l (λ b. b) 64 (pairs_of bytes) (omega (arith, length-pairs)) (omega (arith, is, some)))
