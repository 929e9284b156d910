-- Which name a field, a word or a text is, or its first fault.
use Rattle.std.specs.Prelude.{ℕ, List, length, Result, Ok, Err, nat_lt, cond}
use Rattle.std.specs.List.{list_all}
use Rattle.std.specs.Str.{chars}
use Rattle.njh_ebcdic.specs.Characters.{bytes_or_blanks}
use Rattle.njh_ebcdic.specs.Names.{is_empty, is_name_byte, padded_field, without_end_blanks}
use Rattle.njh_ebcdic.specs.declared.name.NameFault.{NameFault}
use Rattle.njh_ebcdic.specs.declared.name.NameFault.TheVariants.{Empty, TooLong, BadCharacter}

-- of a field of eight bytes
abbrev pub name_of_field : List ℕ → Result (List ℕ) NameFault
name_of_field field =
    cond (is_empty (without_end_blanks field)) (Err Empty)
    (cond (list_all is_name_byte (without_end_blanks field)) (Ok field) (Err BadCharacter))

-- of a word, which has no blanks
abbrev pub name_of_word : List ℕ → Result (List ℕ) NameFault
name_of_word word =
    cond (is_empty word) (Err Empty)
    (cond (nat_lt 8 (length word)) (Err TooLong)
    (cond (list_all is_name_byte word) (Ok (padded_field word)) (Err BadCharacter)))

-- of a text in UTF-8: a blank is no byte of a name, so no character without a byte is one
abbrev pub name_of_text : List ℕ → Result (List ℕ) NameFault
name_of_text text = name_of_word (bytes_or_blanks (chars text))
