-- What one line of a trace is: bytes of a line of the hub in one direction, a signal on such a line, or neither.
use Rattle.std.specs.Prelude.{ℕ, ◌==◌, ◌||◌, ◌&&◌, Bool, not, nat_le, length, List, [], ◌∷◌, ◌++◌, codes, if◌then◌else◌}
use Rattle.std.specs.Prelude.{Option, Some, None, option_map, Result, Ok, Err}
use Rattle.std.specs.List.{slice_split, list_all}
use Rattle.std.specs.Str.{bytes_eq}
use Rattle.hex.specs.Hex.{decode_of}
use Rattle.hex.specs.declared.error.FromHexError.{FromHexError}

-- bytes, with the mark that comes before the words of each of their frames
pub record PieceView : Type 0 where
  pub mark : List ℕ
  pub bytes : List ℕ

-- the mark of what comes in on a line of the hub, and of what goes out
abbrev pub mark_in : List ℕ → List ℕ
mark_in name = name ++ codes " in: "

abbrev pub mark_out : List ℕ → List ℕ
mark_out name = name ++ codes " out: "

-- the words of a line, which one blank parts
abbrev pub words_of : List ℕ → List (List ℕ)
words_of line = slice_split (λ b. b == 32) line

abbrev pub is_letter_or_digit : ℕ → Bool
is_letter_or_digit c =
    (nat_le 48 c && nat_le c 57) || (nat_le 65 c && nat_le c 90) || (nat_le 97 c && nat_le c 122)

-- the name of a line of the hub: letters and digits, one at least
abbrev pub is_name : List ℕ → Bool
is_name word = not (length word == 0) && list_all is_letter_or_digit word

-- the words of a script that tell of a line, but give no bytes
abbrev pub is_signal : List ℕ → Bool
is_signal word = bytes_eq word (codes "TICK") || bytes_eq word (codes "GARBLED") || bytes_eq word (codes "LOST")

-- the words that begin a line of a script
abbrev pub is_script_word : List ℕ → Bool
is_script_word word = is_signal word || bytes_eq word (codes "BYTES") || bytes_eq word (codes "ROUTES")

-- the bytes, if there are any
abbrev pub some_bytes : Result (List ℕ) FromHexError → Option (List ℕ)
some_bytes (Ok []) = None
some_bytes (Ok (b ∷ bs)) = Some (b ∷ bs)
some_bytes (Err e) = None

-- what hex digits spell, two of either case for each byte, and at least one byte
unfoldable pub piece_of_digits : List ℕ → List ℕ → Option PieceView
piece_of_digits mark digits = option_map (λ bytes. record { mark = mark; bytes = bytes })
    (some_bytes (decode_of digits))

-- Digits alone; the name of a line and digits, as the hub's frames are printed; or `BYTES`, a name and digits, as a
-- script gives what comes in.
abbrev pub piece_of_words : List (List ℕ) → Option PieceView
piece_of_words (digits ∷ []) = piece_of_digits [] digits
piece_of_words (name ∷ digits ∷ []) =
    if is_name name && not (is_script_word name) then piece_of_digits (mark_out name) digits else None
piece_of_words (word ∷ name ∷ digits ∷ []) =
    if bytes_eq word (codes "BYTES") && is_name name then piece_of_digits (mark_in name) digits else None
piece_of_words words = None

-- the bytes that a line gives, if it gives any
unfoldable pub piece_in : List ℕ → Option PieceView
piece_in line = piece_of_words (words_of line)

abbrev pub signalled_of_words : List (List ℕ) → Option (List ℕ)
signalled_of_words (word ∷ name ∷ []) = if is_signal word then Some name else None
signalled_of_words words = None

-- the name of the line of the hub of which a line of the trace tells a tick, a garbled block or a loss
unfoldable pub signalled : List ℕ → Option (List ℕ)
signalled line = signalled_of_words (words_of line)
