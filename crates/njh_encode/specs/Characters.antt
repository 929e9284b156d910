-- The bytes of texts in EBCDIC (IBM code page 37).
use Rattle.std.specs.Prelude.{ℕ, ◌==◌, Bool, not, List, length, map, nat_lt, cond, Result, Ok, Err}
use Rattle.std.specs.List.{list_all}
use Rattle.std.specs.Str.{chars}
use Rattle.njh_ebcdic.specs.CodePage.{page_byte}
use Rattle.njh_encode.specs.declared.fault.Reason.{Reason}
use Rattle.njh_encode.specs.declared.fault.Reason.TheVariants.{NoCharacter, TooLong}

-- whether a character has a byte: it has 0 if there is none
abbrev pub is_there : ℕ → Bool
is_there byte = not (byte == 0)

abbrev pub where_all : List ℕ → Result (List ℕ) Reason
where_all bytes = cond (list_all is_there bytes) (Ok bytes) (Err NoCharacter)

-- the bytes of a text in UTF-8 that has at most so many characters, each of which has a byte
unfoldable pub bytes_of_text : ℕ → List ℕ → Result (List ℕ) Reason
bytes_of_text limit text =
    cond (nat_lt limit (length (chars text))) (Err TooLong)
    (where_all (map page_byte (chars text)))
