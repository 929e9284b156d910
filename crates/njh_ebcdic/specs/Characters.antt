-- The characters of EBCDIC that names, users and replies are written in (IBM code page 37).
use Rattle.std.specs.Prelude.{ℕ, ◌+◌, Bool, ◌||◌, List, [], ◌∷◌, ◌==◌, Option, find, map, unwrap_or, codes}
use Rattle.std.specs.List.{flat_map}
use Rattle.std.specs.Option.{option_map}
use Rattle.njh_ebcdic.specs.Names.{within}

-- the rows of the code page: the byte of the first character, and the characters that follow one another there
abbrev pub rows : List (ℕ × List ℕ)
rows =
    (0x40, codes " ") ∷
    (0x4b, codes ".") ∷
    (0x4d, codes "(") ∷
    (0x5b, codes "$*)") ∷
    (0x60, codes "-/") ∷
    (0x6b, codes ",") ∷
    (0x7a, codes ":#@") ∷
    (0x81, codes "abcdefghi") ∷
    (0x91, codes "jklmnopqr") ∷
    (0xa2, codes "stuvwxyz") ∷
    (0xc1, codes "ABCDEFGHI") ∷
    (0xd1, codes "JKLMNOPQR") ∷
    (0xe2, codes "STUVWXYZ") ∷
    (0xf0, codes "0123456789") ∷ []

-- the characters from a byte on, each with its byte
abbrev pub with_bytes : ℕ → List ℕ → List (ℕ × ℕ)
with_bytes byte [] = []
with_bytes byte (c ∷ cs) = (byte, c) ∷ with_bytes (byte + 1) cs

-- each byte that has a character, and that character (its number in Unicode)
abbrev pub table : List (ℕ × ℕ)
table = flat_map (λ row. with_bytes row.0 row.1) rows

unfoldable pub character_of : ℕ → Option ℕ
character_of byte = option_map (λ pair. pair.1) (find (λ pair. pair.0 == byte) table)

unfoldable pub byte_of_character : ℕ → Option ℕ
byte_of_character character = option_map (λ pair. pair.0) (find (λ pair. pair.1 == character) table)

-- the character of a byte, or a question mark
abbrev pub printed_character : ℕ → ℕ
printed_character byte = unwrap_or (character_of byte) 63

-- of each byte in turn: all of these are of ASCII, so that this is UTF-8 too
abbrev pub shown_text : List ℕ → List ℕ
shown_text bytes = map printed_character bytes

-- the byte of a character, or a blank
abbrev pub byte_or_blank : ℕ → ℕ
byte_or_blank character = unwrap_or (byte_of_character character) 0x40

-- of each character in turn
abbrev pub bytes_or_blanks : List ℕ → List ℕ
bytes_or_blanks characters = map byte_or_blank characters

-- capital letters, digits, full stop and blank: the characters of the hub's own words
abbrev pub is_plain : ℕ → Bool
is_plain c = within 65 90 c || (within 48 57 c || ((c == 46) || (c == 32)))
