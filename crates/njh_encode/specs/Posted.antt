-- What the words of a file say: `LYON.42 of ANNA to PAUL@METZ, lines from FILE`.
use Rattle.std.specs.Prelude.{ℕ, ◌==◌, Bool, ◌&&◌, List, length, Option, Some, None, cond, codes, bytes_eq, nat_lt}
use Rattle.std.specs.Prelude.{is_some}
use Rattle.std.specs.Option.{option_map, option_and_then}
use Rattle.njh_encode.specs.declared.posting.Posting.{Posting}
use Rattle.njh_encode.specs.Words.{back, behind, first_word, front, line_in, name_in, named, number_in}

-- after the owner: `to PAUL@METZ`
unfoldable pub posting_to : List ℕ → ℕ → List ℕ → List ℕ → Option Posting
posting_to origin number owner text =
    cond (bytes_eq (first_word text) (codes "to"))
    (option_and_then
    (λ receiver. option_map
    (λ destination. record {
      origin = origin;
      number = number;
      owner = owner;
      receiver = receiver;
      destination = destination;
    }) (name_in (back 64 (behind text))))
    (name_in (front 64 (behind text)))) None

-- after the file's name: `of ANNA to PAUL@METZ`
unfoldable pub posting_from : List ℕ → ℕ → List ℕ → Option Posting
posting_from origin number text =
    option_and_then (λ owner. posting_to origin number owner (behind (behind text))) (named (codes "of") text)

-- before the comma
unfoldable pub posting_in : List ℕ → Option Posting
posting_in text =
    let file = first_word (front 44 text) in
    option_and_then
    (λ origin. option_and_then (λ number. posting_from origin number (behind (front 44 text)))
    (number_in (back 46 file)))
    (name_in (front 46 file))

-- after the comma: a text's name, which has one byte at least
abbrev pub are_lines_from : List ℕ → Bool
are_lines_from tail =
    (length (first_word tail) == 0) && (bytes_eq (first_word (behind tail)) (codes "lines")
    && (bytes_eq (first_word (behind (behind tail))) (codes "from")
    && nat_lt 0 (length (behind (behind (behind tail))))))

unfoldable pub letter_in : List ℕ → Option (List ℕ)
letter_in text = cond (are_lines_from (back 44 text)) (Some (behind (behind (behind (back 44 text))))) None

-- whether a line says a file, whatever comes after that word: a line of the hub, a colon, a blank and `file`
unfoldable pub is_of_file : List ℕ → Bool
is_of_file line =
    is_some (line_in (front 58 line)) && ((length (first_word (back 58 line)) == 0)
    && bytes_eq (first_word (behind (back 58 line))) (codes "file"))
