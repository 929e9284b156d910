-- Fields by their halves: the bytes without the blanks behind them.
use Rattle.std.proofs.Common.{◌≡◌, ℕ, ◌==◌, Bool, true, false, cond, ◌&&◌, List, [], ◌∷◌, ◌++◌, length, replicate}
use Rattle.std.proofs.Common.{bytes_eq, drop, take, refl, sym, ap, ◌∙◌, arith}
use Rattle.std.proofs.lemmas.Bool.{both_ways}
use Rattle.std.proofs.lemmas.List.{length-drop, take-append-drop, take_all}
use Rattle.njh_ebcdic.specs.Names.{is_empty, without_end_blanks}

abbrev in_front : ℕ → List ℕ → List ℕ
in_front b rest = elim rest as (λ _. List ℕ) [ [] ↦ cond (b == 0x40) [] (b ∷ []) | r ∷ rs ↦ b ∷ r ∷ rs ]

none_left : (b : ℕ) (blank : Bool) (rest : List ℕ)
    → (blank && is_empty rest) ≡ is_empty (elim rest as (λ _. List ℕ)
    [ [] ↦ cond blank [] (b ∷ []) | r ∷ rs ↦ b ∷ r ∷ rs ])
none_left b true [] = refl
none_left b true (r ∷ rs) = refl
none_left b false [] = refl
none_left b false (r ∷ rs) = refl

-- whether bytes are blanks alone
pub blank-test : (bytes : List ℕ) → bytes_eq bytes (replicate (length bytes) 0x40) ≡ is_empty (without_end_blanks bytes)
blank-test [] = refl
blank-test (b ∷ bytes) = ap (λ t. (b == 0x40) && t) (blank-test bytes)
    ∙ none_left b (b == 0x40) (without_end_blanks bytes)

none : (bytes : List ℕ) → is_empty bytes ≡ true → [] ≡ bytes
none [] is = refl
none (b ∷ bytes) is = absurd (both_ways (is_empty (b ∷ bytes)) refl is)

behind_none : (front back : List ℕ) → [] ≡ without_end_blanks back
    → without_end_blanks front ≡ without_end_blanks (front ++ back)
behind_none [] back is = is
behind_none (b ∷ front) back is = ap (in_front b) (behind_none front back is)

in_front-some : (b : ℕ) (front rest : List ℕ) → is_empty rest ≡ false → b ∷ (front ++ rest) ≡ in_front b (front ++ rest)
in_front-some b [] [] some = absurd (both_ways (is_empty []) some refl)
in_front-some b [] (r ∷ rs) some = refl
in_front-some b (x ∷ front) rest some = refl

behind_some : (front back : List ℕ) → is_empty (without_end_blanks back) ≡ false
    → front ++ without_end_blanks back ≡ without_end_blanks (front ++ back)
behind_some [] back some = refl
behind_some (b ∷ front) back some = in_front-some b front (without_end_blanks back) some
    ∙ ap (in_front b) (behind_some front back some)

module _ (field : List ℕ) (is : length field ≡ 8) where
  back_is : take 4 (drop 4 field) ≡ drop 4 field
  back_is = take_all 4 (drop 4 field) (omega (arith, is, length-drop 4 field))

  whole : take 4 field ++ take 4 (drop 4 field) ≡ field
  whole = ap (λ back. take 4 field ++ back) back_is ∙ take-append-drop 4 field

  four : length (take 4 (drop 4 field)) ≡ 4
  four = omega (arith, is, length-drop 4 field, ap length back_is)

  test : bytes_eq (take 4 (drop 4 field)) (replicate 4 0x40) ≡ is_empty (without_end_blanks (take 4 (drop 4 field)))
  test =
      ap (λ n. bytes_eq (take 4 (drop 4 field)) (replicate n 0x40)) (sym four)
      ∙ blank-test (take 4 (drop 4 field))

  -- blanks alone behind the front
  pub trimmed-front : bytes_eq (take 4 (drop 4 field)) (replicate 4 0x40) ≡ true
      → without_end_blanks (take 4 field) ≡ without_end_blanks field
  trimmed-front blank =
      behind_none (take 4 field) (take 4 (drop 4 field))
      (none (without_end_blanks (take 4 (drop 4 field))) (sym test ∙ blank)) ∙ ap without_end_blanks whole

  -- something behind the front
  pub trimmed-back : bytes_eq (take 4 (drop 4 field)) (replicate 4 0x40) ≡ false
      → take 4 field ++ without_end_blanks (take 4 (drop 4 field)) ≡ without_end_blanks field
  trimmed-back other = behind_some (take 4 field) (take 4 (drop 4 field)) (sym test ∙ other)
      ∙ ap without_end_blanks whole
