-- Names and users' fields, as an answer shows them.
use Rattle.std.specs.Prelude.{ℕ, List, [], ◌++◌, codes, Result, Ok, Err}
use Rattle.std.specs.Fmt.{decimal}
use Rattle.hex.specs.Hex.{encode_lower}
use Rattle.serde_json.specs.Data.{Data, string, object, member, no_members}
use Rattle.njh_ebcdic.specs.Characters.{shown_text}
use Rattle.njh_ebcdic.specs.Names.{without_end_blanks}
use Rattle.njh_ebcdic.specs.Reading.{name_of_field}
use Rattle.njh_ebcdic.specs.declared.name.NameFault.{NameFault}
use Rattle.njh_ebcdic.specs.declared.name.NameFault.TheVariants.{Empty, TooLong, BadCharacter}
use Rattle.njh_header.specs.FileNames.{FileName}

abbrev pub name_text : List ℕ → List ℕ
name_text name = shown_text (without_end_blanks name)

-- LYON.42
unfoldable pub file_name_text : FileName → List ℕ
file_name_text name = name_text name.node ++ (codes "." ++ decimal name.number)

-- X'c1c2'
unfoldable pub hex_text : List ℕ → List ℕ
hex_text bytes = codes "X'" ++ (encode_lower bytes ++ codes "'")

-- a name, or what is no name by its bytes
abbrev pub text_where : List ℕ → Result (List ℕ) NameFault → List ℕ
text_where field (Ok name) = name_text name
text_where field (Err Empty) = []
text_where field (Err TooLong) = hex_text (without_end_blanks field)
text_where field (Err BadCharacter) = hex_text (without_end_blanks field)

abbrev pub field_text : List ℕ → List ℕ
field_text field = text_where field (name_of_field field)

-- {"node":"LYON","user":"ANNA"}
abbrev pub user_data : List ℕ → List ℕ → Data
user_data node user =
    object (member (codes "node") (string (field_text node))
    (member (codes "user") (string (field_text user)) no_members))
