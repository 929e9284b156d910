-- What a line of `BYTES` begins with, as it is found.
use Rattle.std.proofs.Common.{◌≡◌, ℕ, ◌+◌, ◌<◌, eqb, false, List, [], ◌∷◌, ◌++◌, length, get_or, take, Some, All, sym}
use Rattle.std.proofs.Common.{ap, subst, ◌∙◌, append_assoc, arith}
use Rattle.std.specs.List.{position_or_len, before_first, after_first}
use Rattle.std.specs.Str.{IsUtf8}
use Rattle.std.proofs.lemmas.Bool.{eqb-true, false_from_ne_true}
use Rattle.std.proofs.lemmas.Grind.{common_steps}
use Rattle.std.proofs.lemmas.List.Sums.{fails_before_first, passes_at_first, position_or_len_is, split_at_first}
use Rattle.std.proofs.Math.Seq.{take-append_seam}
use Rattle.memchr.specs.Find.{IsFirstByte, is_byte}
use Rattle.njh_table.specs.declared.LineId.{LineId}
use Rattle.njh_table.specs.TableFile.{TableFile, line_named, HasLine}
use Rattle.njh_replay.specs.code.LineStarts.{IsStart}
use Rattle.njh_replay.proofs.LineForms.{is_blank}

-- the first word of what comes after a blank, and that it is there
pub record IsFirstWord (rest name : List ℕ) : Type 0 where
  pub word : All (λ b. eqb b 32 ≡ false) name
  pub behind : List ℕ
  pub whole : rest ≡ name ++ (32 ∷ behind)

first_word : (rest name : List ℕ) (len : ℕ) → IsFirstByte (is_byte 32) rest (Some len) → name ≡ take len rest
    → IsFirstWord rest name
first_word rest name len first named =
    let before = first.0 in
    let place : position_or_len is_blank rest ≡ len =
    position_or_len_is is_blank rest len 0 (omega (arith, before.high))
    (λ k below. false_from_ne_true (eqb (get_or rest k 0) 32) (before.before k (omega arith) below)) (λ within. first.1)
    in
    let below : position_or_len is_blank rest < length rest = omega (arith, place, before.high) in
    let blank : get_or rest (position_or_len is_blank rest) 0 ≡ 32 =
    eqb-true _ 32 (passes_at_first is_blank rest 0 below) in
    let front : before_first is_blank rest ≡ name = ap (λ n. take n rest) place ∙ sym named in
    let none : All (λ b. eqb b 32 ≡ false) (before_first is_blank rest) = λ k e m.
    let fails = fails_before_first is_blank rest k e (grind (arith, common_steps)) in grind (arith, common_steps) in
    record {
      word = subst (All (λ b. eqb b 32 ≡ false)) front none;
      behind = after_first is_blank rest;
      whole = split_at_first is_blank rest 0 below
          ∙ (ap (λ (n : List ℕ). n ++ (get_or rest (position_or_len is_blank rest) 0 ∷ after_first is_blank rest)) front
          ∙ ap (λ (b : ℕ). name ++ (b ∷ after_first is_blank rest)) blank);
    }

-- so the bytes up to the blank after it are a start
pub found_start : (tables : TableFile) (line rest name : List ℕ) (len : ℕ) (found : LineId)
    → line ≡ 66 ∷ 89 ∷ 84 ∷ 69 ∷ 83 ∷ 32 ∷ rest → IsFirstByte (is_byte 32) rest (Some len) → name ≡ take len rest
    → IsUtf8 name
    → Some found ≡ line_named tables name → HasLine tables found
    → IsStart tables (take (len + 7) line) found
found_start tables line rest name len found begins first named text owned known =
    let first_is = first_word rest name len first named in
    let front = 66 ∷ 89 ∷ 84 ∷ 69 ∷ 83 ∷ 32 ∷ (name ++ 32 ∷ []) in
    let whole : line ≡ front ++ first_is.behind = begins
    ∙ ap (λ (r : List ℕ). 66 ∷ 89 ∷ 84 ∷ 69 ∷ 83 ∷ 32 ∷ r)
    (first_is.whole ∙ sym (append_assoc name (32 ∷ []) first_is.behind)) in
    let size : len + 7 ≡ length front = grind (arith, common_steps, named, first.0.high) in
    let is : take (len + 7) line ≡ front =
    ap (λ n. take n line) size ∙ (ap (take (length front)) whole ∙ take-append_seam front first_is.behind) in
    record { name = name; spelled = is; text = text; word = first_is.word; owner = sym owned; known = known }
