-- IBM code page 37: the character of each byte, and the byte of each character, by its number in Unicode.
use Rattle.std.specs.Prelude.{ℕ, ◌==◌, Bool, ◌&&◌, ◌||◌, List, cond, encode_utf8, flat_map, nat_le, nat_lt, position}
use Rattle.std.specs.Prelude.{slice_index, unwrap_or}
use Rattle.njh_ebcdic.specs.Names.{within}
use Rattle.njh_ebcdic.specs.declared.code_page.TheConstants.{PAGE}

-- the character of a byte, or a full stop if nothing is seen
unfoldable pub page_character : ℕ → ℕ
page_character byte = cond (slice_index PAGE byte == 0) 46 (slice_index PAGE byte)

-- the byte of a character: its place in the page, or 0 if it has none
unfoldable pub page_byte : ℕ → ℕ
page_byte character = unwrap_or (position (λ known. known == character) PAGE) 0

-- whether a character up to FF is seen
abbrev pub is_seen : ℕ → Bool
is_seen c = nat_le 0x20 c && (nat_lt c 0x7f || nat_lt 0xa0 c)

unfoldable pub character_words : ℕ → List ℕ
character_words byte = encode_utf8 (page_character byte)

-- bytes as characters, in UTF-8
abbrev pub text_words : List ℕ → List ℕ
text_words bytes = flat_map character_words bytes

-- whether a character is one of those that names, users and replies are written in
abbrev pub is_written : ℕ → Bool
is_written c =
    within 97 122 c || (within 65 90 c || (within 48 57 c || (within 35 36 c || (within 40 42 c
    || (within 44 46 c || ((c == 32) || ((c == 47) || ((c == 58) || (c == 64)))))))))
