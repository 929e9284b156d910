-- Texts and users' fields, as they stand in a request.
use Rattle.std.specs.Prelude.{ℕ, ◌-◌, ◌&&◌, Bool, List, length, take, drop, codes, cond, nat_le, not, bytes_eq, is_some}
use Rattle.std.specs.Prelude.{Option, Some, None, option_and_then}
use Rattle.std.specs.List.{list_all}
use Rattle.std.specs.Result.{result_ok}
use Rattle.std.specs.Str.{chars}
use Rattle.hex.specs.Hex.{decode_of}
use Rattle.njh_ebcdic.specs.Characters.{byte_of_character, bytes_or_blanks}
use Rattle.njh_ebcdic.specs.Names.{is_empty, padded_field}

abbrev pub has_byte : ℕ → Bool
has_byte character = is_some (byte_of_character character)

abbrev pub have_bytes : ℕ → List ℕ → Bool
have_bytes most characters = nat_le (length characters) most && list_all has_byte characters

-- a text of 1 to 148 characters that each have a byte
abbrev pub text_of_characters : List ℕ → Option (List ℕ)
text_of_characters text =
    cond (not (is_empty text) && have_bytes 148 (chars text)) (Some (bytes_or_blanks (chars text))) None

-- what stands between X' and '
abbrev pub is_quoted : List ℕ → Bool
is_quoted text =
    nat_le 3 (length text)
    && (bytes_eq (take 2 text) (codes "X'") && bytes_eq (drop (length text - 1) text) (codes "'"))

abbrev pub digits_quoted : List ℕ → Option (List ℕ)
digits_quoted text = cond (is_quoted text) (Some (drop 2 (take (length text - 1) text))) None

-- bytes that fit into a field, with blanks after them
abbrev pub field_of_bytes : List ℕ → Option (List ℕ)
field_of_bytes bytes = cond (nat_le (length bytes) 8) (Some (padded_field bytes)) None

-- a field by its bytes in hex: X'C1C2'
abbrev pub field_of_hex : List ℕ → Option (List ℕ)
field_of_hex text =
    option_and_then field_of_bytes (option_and_then (λ digits. result_ok (decode_of digits)) (digits_quoted text))

-- a user's field of at most 8 characters that each have a byte, or by its bytes in hex
abbrev pub field_of_text : List ℕ → Option (List ℕ)
field_of_text text =
    cond (have_bytes 8 (chars text)) (Some (padded_field (bytes_or_blanks (chars text)))) (field_of_hex text)
