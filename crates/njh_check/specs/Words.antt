-- Values of a table file in words, in one line of ASCII.
use Rattle.std.specs.Prelude.{ℕ, ◌+◌, Bool, ◌&&◌, List, [], ◌++◌, length, codes, nat_le, cond, Option, Some, None}
use Rattle.std.specs.Prelude.{is_some}
use Rattle.std.specs.Fmt.{decimal, signed_decimal}
use Rattle.std.specs.List.{list_all}
use Rattle.toml.specs.Data.{Data, as_str, as_integer, as_array, as_table}
use Rattle.njh_ebcdic.specs.Names.{within}

-- one text after another, as the pieces of a line come
infixr 20 ◌+++◌
abbrev pub ◌+++◌ : List ℕ → List ℕ → List ℕ
front +++ back = front ++ back

-- whether a text is shown as it is: at most 64 bytes, each a character of ASCII that is seen, or a blank
unfoldable pub is_shown : List ℕ → Bool
is_shown text = nat_le (length text) 64 && list_all (within 32 126) text

unfoldable pub text_words : List ℕ → List ℕ
text_words text =
    cond (is_shown text) (codes "\"" +++ text +++ codes "\"")
    (codes "a text that is long or has other characters than ASCII's")

-- a value that is neither a text nor a number
unfoldable pub kind_words : Data → List ℕ
kind_words value =
    cond (is_some (as_array value)) (codes "a list")
    (cond (is_some (as_table value)) (codes "a table") (codes "a value of another type"))

unfoldable pub number_or_kind_words : Data → List ℕ
number_or_kind_words value = elim (as_integer value) [ None ↦ kind_words value | Some z ↦ signed_decimal z ]

unfoldable pub value_words : Data → List ℕ
value_words value = elim (as_str value) [ None ↦ number_or_kind_words value | Some text ↦ text_words text ]

-- a value, if there is one
unfoldable pub found_words : Option Data → List ℕ
found_words None = codes "nothing"
found_words (Some value) = value_words value

-- a name in brackets, if there is one that is shown
unfoldable pub label_words : Option (List ℕ) → List ℕ
label_words None = []
label_words (Some name) = cond (is_shown name) (codes " (" +++ name +++ codes ")") []

-- a word with a number, which people count from 1 on, and a name
unfoldable pub numbered : List ℕ → ℕ → Option (List ℕ) → List ℕ
numbered word number name = word +++ codes " " +++ decimal (number + 1) +++ label_words name

-- the numbers from one to another, both among them
abbrev pub between_words : ℕ → ℕ → List ℕ
between_words low high = decimal low +++ codes " to " +++ decimal high
