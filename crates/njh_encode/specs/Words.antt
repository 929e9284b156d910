-- What is in a line of words: words parted by one blank, numbers, names and streams.
use Rattle.std.specs.Prelude.{ℕ, ◌+◌, ◌-◌, ◌*◌, Bool, List, [], ◌∷◌, ◌++◌, length, replicate, Option, Some, None, ◌==◌}
use Rattle.std.specs.Prelude.{nat_le, nat_lt, cond, ◌&&◌, ◌||◌, bytes_eq, codes}
use Rattle.std.specs.List.{list_all, before_first, after_first}
use Rattle.std.specs.Option.{option_and_then}
use Rattle.std.specs.Result.{result_ok}
use Rattle.njh_ebcdic.specs.Names.{within}
use Rattle.njh_ebcdic.specs.Reading.{name_of_text}

-- what comes before the first of a mark, or all if there is none
unfoldable pub front : ℕ → List ℕ → List ℕ
front mark text = before_first (λ b. b == mark) text

-- what comes after it, or nothing
unfoldable pub back : ℕ → List ℕ → List ℕ
back mark text = after_first (λ b. b == mark) text

-- the first word, and what comes after its blank
abbrev pub first_word : List ℕ → List ℕ
first_word text = front 32 text

abbrev pub behind : List ℕ → List ℕ
behind text = back 32 text

-- ---- numbers, from 0 to 65,535 in 1 to 5 digits

abbrev pub value_behind : ℕ → List ℕ → ℕ
value_behind higher [] = higher
value_behind higher (digit ∷ digits) = value_behind (10 * higher + (digit - 48)) digits

abbrev pub decimal_value : List ℕ → ℕ
decimal_value digits = value_behind 0 digits

abbrev pub are_digits : List ℕ → Bool
are_digits digits = nat_lt 0 (length digits) && (nat_le (length digits) 5 && list_all (within 48 57) digits)

unfoldable pub number_in : List ℕ → Option ℕ
number_in digits =
    cond (are_digits digits && nat_le (decimal_value digits) 65535) (Some (decimal_value digits)) None

-- ---- names of nodes and users, by their field

unfoldable pub name_in : List ℕ → Option (List ℕ)
name_in text = result_ok (name_of_text text)

-- a node that follows a word of its own, as in `from LYON`
unfoldable pub named : List ℕ → List ℕ → Option (List ℕ)
named label text = cond (bytes_eq (first_word text) label) (name_in (first_word (behind text))) None

-- ---- names of the hub's lines: 1 to 8 letters and digits of ASCII, filled with 00

abbrev pub is_letter_or_digit : ℕ → Bool
is_letter_or_digit b = within 48 57 b || (within 65 90 b || within 97 122 b)

-- a name of a line in a trace, which may be longer
unfoldable pub is_name : List ℕ → Bool
is_name word = nat_lt 0 (length word) && list_all is_letter_or_digit word

unfoldable pub line_in : List ℕ → Option (List ℕ)
line_in text =
    cond (nat_lt 0 (length text) && (nat_le (length text) 8 && list_all is_letter_or_digit text))
    (Some (text ++ replicate (8 - length text) 0)) None

-- ---- streams, by their place: SYSIN 1 to 4 are 0 to 3, SYSOUT 1 to 4 are 4 to 7

unfoldable pub stream_at : List ℕ → ℕ → Option ℕ
stream_at kind n =
    cond (nat_lt 0 n && nat_le n 4)
    (cond (bytes_eq kind (codes "SYSIN")) (Some (n - 1))
    (cond (bytes_eq kind (codes "SYSOUT")) (Some (n + 3)) None)) None

unfoldable pub stream_in : List ℕ → Option ℕ
stream_in text = option_and_then (stream_at (first_word text)) (number_in (behind text))
