-- How many bytes at the front are one byte, as a mask of 16 of them tells, and in two parts.
use Rattle.std.proofs.Common.{◌≡◌, ◌≢◌, ℕ, ◌+◌, ◌%◌, ◌^◌, ◌≤◌, Bool, true, false, not, cond, eqb, List, [], ◌∷◌, length}
use Rattle.std.proofs.Common.{take, drop, map, replicate, refl, sym, ap, ◌∙◌, arith, w8, length-take}
use Rattle.std.specs.List.{prefix_len}
use Rattle.std.specs.Simd.Lanes.{mask_l, top, zip2}
use Rattle.std.specs.Int.Count.{count_trailing_zeros}
use Rattle.std.proofs.lemmas.Bool.{cond-true, eq-eqb}
use Rattle.std.proofs.lemmas.Simd.{bitmask_splat, trailing_mask_l}
use Rattle.std.proofs.lemmas.List.Sums.{prefix_len-le-length}
use Rattle.std.proofs.lemmas.List.Folds.{prefix_len-append}
use Rattle.njh_record.proofs.Runs.{take-more}

not_not : (b : Bool) → not (not b) ≡ b
not_not true = refl
not_not false = refl

prefix_len-not_not : (byte : ℕ) (bytes : List ℕ)
    → prefix_len (λ x. not (not (eqb x byte))) bytes ≡ prefix_len (λ x. eqb x byte) bytes
prefix_len-not_not byte [] = refl
prefix_len-not_not byte (x ∷ bytes) =
    ap (λ n. cond (not (not (eqb x byte))) (1 + n) 0) (prefix_len-not_not byte bytes)
    ∙ ap (λ test. cond test (1 + prefix_len (λ y. eqb y byte) bytes) 0) (not_not (eqb x byte))

module _ (bytes : List ℕ) (byte : ℕ) (long : 16 ≤ length bytes) where
  length-group : length (take 16 bytes) ≡ 16
  length-group = omega (arith, length-take 16 bytes)

  -- the mask of the bytes that are others, as the processor has it
  pub others_are : mask_l (map (top 7) (zip2 (λ a b. cond (not (eqb a b)) 255 0) (take 16 bytes) (replicate 16 byte))) %
      2 ^ 64
      ≡ mask_l (map (λ x. not (eqb x byte)) (take 16 bytes))
  others_are = bitmask_splat w8 (λ a b. not (eqb a b)) (take 16 bytes) 16 byte length-group (omega arith)

  pub same_before : (mask : ℕ) → mask ≡ mask_l (map (λ x. not (eqb x byte)) (take 16 bytes)) → mask ≢ 0
      → count_trailing_zeros 64 mask ≡ prefix_len (λ x. eqb x byte) (take 16 bytes)
  same_before mask is some =
      ap (count_trailing_zeros 64) is
      ∙ (trailing_mask_l (λ x. not (eqb x byte)) 64 (take 16 bytes) (omega (arith, length-group))
      (omega (arith, is, some))
      ∙ prefix_len-not_not byte (take 16 bytes))

  -- the first 31 bytes are the first 16 and 15 more
  in_parts : prefix_len (λ x. eqb x byte) (take 31 bytes)
      ≡ cond (eqb (prefix_len (λ x. eqb x byte) (take 16 bytes)) 16)
      (16 + prefix_len (λ x. eqb x byte) (take 15 (drop 16 bytes)))
      (prefix_len (λ x. eqb x byte) (take 16 bytes))
  in_parts =
      ap (prefix_len (λ x. eqb x byte)) (sym (take-more 16 15 bytes))
      ∙ (prefix_len-append (λ x. eqb x byte) (take 16 bytes) (take 15 (drop 16 bytes))
      ∙ ap (λ n. cond (eqb (prefix_len (λ x. eqb x byte) (take 16 bytes)) n)
      (n + prefix_len (λ x. eqb x byte) (take 15 (drop 16 bytes)))
      (prefix_len (λ x. eqb x byte) (take 16 bytes))) length-group)

  pub run-long : (n more : ℕ) → n ≡ prefix_len (λ x. eqb x byte) (take 16 bytes) → 16 ≤ n
      → more ≡ prefix_len (λ x. eqb x byte) (take 15 (drop 16 bytes))
      → 16 + more ≡ prefix_len (λ x. eqb x byte) (take 31 bytes)
  run-long n more is many rest =
      let all : prefix_len (λ x. eqb x byte) (take 16 bytes) ≡ 16 =
      omega (arith, is, length-group, prefix_len-le-length (λ x. eqb x byte) (take 16 bytes)) in
      ap (λ m. 16 + m) rest ∙ sym (in_parts ∙ cond-true _ _ _ (eq-eqb _ _ all))
