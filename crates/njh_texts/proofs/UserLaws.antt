-- What is said of a user's field that isn't blank.
use Rattle.std.proofs.Common.{◌≡◌, ℕ, ◌==◌, Bool, true, false, cond, not, ◌&&◌, List, [], ◌∷◌, length, replicate}
use Rattle.std.proofs.Common.{bytes_eq, refl, sym, ap, ◌∙◌}
use Rattle.std.proofs.lemmas.Bool.{both_ways}
use Rattle.njh_ebcdic.specs.Names.{is_empty, without_end_blanks}
use Rattle.njh_texts.specs.Texts.{user_text}

none_left : (b : ℕ) (blank : Bool) (rest : List ℕ)
    → (blank && is_empty rest) ≡ is_empty (elim rest as (λ _. List ℕ)
    [ [] ↦ cond blank [] (b ∷ []) | r ∷ rs ↦ b ∷ r ∷ rs ])
none_left b true [] = refl
none_left b true (r ∷ rs) = refl
none_left b false [] = refl
none_left b false (r ∷ rs) = refl

blank_test : (bytes : List ℕ) → bytes_eq bytes (replicate (length bytes) 0x40) ≡ is_empty (without_end_blanks bytes)
blank_test [] = refl
blank_test (b ∷ bytes) = ap (λ t. (b == 0x40) && t) (blank_test bytes)
    ∙ none_left b (b == 0x40) (without_end_blanks bytes)

unless : (b : Bool) → not b ≡ true → b ≡ false
unless true is = absurd (both_ways (not true) refl is)
unless false is = refl

said : (rest : List ℕ) → is_empty rest ≡ false → 0x40 ∷ rest ≡ user_text rest
said [] some = absurd (both_ways (is_empty []) some refl)
said (r ∷ rs) some = refl

pub user-said : (field : List ℕ) → length field ≡ 8 → not (bytes_eq field (replicate 8 0x40)) ≡ true
    → 0x40 ∷ without_end_blanks field ≡ user_text (without_end_blanks field)
user-said field is some =
    said (without_end_blanks field) (sym (blank_test field) ∙ ap (λ n. bytes_eq field (replicate n 0x40)) is
    ∙ unless (bytes_eq field (replicate 8 0x40)) some)
