-- A name is read from its word, and from its characters.
use Rattle.std.proofs.Common.{◌≡◌, ℕ, zero, suc, ◌<◌, true, ltb, Ok, List, [], ◌∷◌, length, refl, ap, ◌∙◌, arith}
use Rattle.std.specs.List.{list_all}
use Rattle.std.specs.Prelude.{slice_index}
use Rattle.std.proofs.lemmas.Bool.{and_parts, cond-true, cond-false, le-ltb}
use Rattle.std.proofs.lemmas.Str.{chars-IsAscii}
use Rattle.njh_ebcdic.specs.Names.{is_empty, is_name, is_name_byte, without_end_blanks}
use Rattle.njh_ebcdic.specs.Characters.{bytes_or_blanks, shown_text}
use Rattle.njh_ebcdic.specs.Reading.{name_of_word, name_of_text}
use Rattle.njh_ebcdic.proofs.Blanks.{IsNamed-is_name}
use Rattle.njh_ebcdic.proofs.PageLaws.{shown-ascii}
use Rattle.njh_ebcdic.proofs.TableLaws.{byte_or_blank-shown}

pub name_of_word-trimmed : (name : List ℕ) → is_name name ≡ true → name_of_word (without_end_blanks name) ≡ Ok name
name_of_word-trimmed name is =
    let parts = IsNamed-is_name name is in
    cond-false (is_empty (without_end_blanks name)) _ _ parts.some
    ∙ (cond-false (ltb 8 (length (without_end_blanks name))) _ _ (le-ltb 8 _ parts.few)
    ∙ (cond-true (list_all is_name_byte (without_end_blanks name)) _ _ parts.named ∙ ap Ok parts.whole))

shown_text-ascii : (bytes : List ℕ) (i : ℕ) → slice_index (shown_text bytes) i < 128
shown_text-ascii [] i = omega arith
shown_text-ascii (b ∷ bytes) zero = shown-ascii b
shown_text-ascii (b ∷ bytes) (suc i) = shown_text-ascii bytes i

bytes_or_blanks-shown_text : (bytes : List ℕ) → list_all is_name_byte bytes ≡ true
    → bytes_or_blanks (shown_text bytes) ≡ bytes
bytes_or_blanks-shown_text [] named = refl
bytes_or_blanks-shown_text (b ∷ bytes) named =
    let parts = and_parts (is_name_byte b) (list_all is_name_byte bytes) named in
    ap (λ first. first ∷ bytes_or_blanks (shown_text bytes)) (byte_or_blank-shown b parts.0)
    ∙ ap (λ rest. b ∷ rest) (bytes_or_blanks-shown_text bytes parts.1)

pub name_of_text-shown_text : (name : List ℕ) → is_name name ≡ true
    → name_of_text (shown_text (without_end_blanks name)) ≡ Ok name
name_of_text-shown_text name is =
    let parts = IsNamed-is_name name is in
    let same = ap bytes_or_blanks (chars-IsAscii (shown_text (without_end_blanks name))
    (shown_text-ascii (without_end_blanks name)))
    ∙ bytes_or_blanks-shown_text (without_end_blanks name) parts.named in
    ap name_of_word same ∙ name_of_word-trimmed name is
