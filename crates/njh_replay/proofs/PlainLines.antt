-- A line of `BYTES` by its bytes: if it begins as it should and the digits are such, it is text, and has this event.
use Rattle.std.proofs.Common.{◌≡◌, ℕ, ◌<◌, true, codes, List, [], ◌∷◌, ◌++◌, get_or, Some, None, option_and_then}
use Rattle.std.proofs.Common.{Result, Ok, Err, refl, sym, ap, subst, ◌∙◌, append_assoc, arith, lit<}
use Rattle.std.specs.Option.{option_map}
use Rattle.std.specs.Str.{IsUtf8, IsAscii, is_utf8}
use Rattle.std.proofs.lemmas.Bool.{cond-true}
use Rattle.std.proofs.lemmas.List.Splits.{slice_split_at}
use Rattle.std.proofs.lemmas.Str.{IsUtf8-append, IsUtf8-from_ascii, is_utf8-from_IsUtf8}
use Rattle.std.proofs.lemmas.Str.Ascii.{IsAscii-nil, IsAscii-cons, IsAscii-from_all}
use Rattle.hex.specs.Hex.{decode_of, is_hex_digit}
use Rattle.hex.specs.declared.error.FromHexError.{FromHexError}
use Rattle.hex.proofs.HexLemmas.{decode_of-ok}
use Rattle.njh_table.specs.declared.LineId.{LineId}
use Rattle.njh_table.specs.TableFile.{TableFile, line_named}
use Rattle.njh_hub.specs.declared.event.Event.TheVariants.{Bytes}
use Rattle.njh_replay.specs.code.LineStarts.{IsStart}
use Rattle.njh_replay.specs.Script.{words_of, script_event, event_of_words, event_on_line, bytes_on, piece_of}
use Rattle.njh_replay.specs.Script.{some_bytes}
use Rattle.njh_replay.proofs.LineForms.{is_blank, digits_event}

-- digits that spell bytes are ASCII
is_hex_digit-ascii : (b : ℕ) → is_hex_digit b ≡ true → b < 128
is_hex_digit-ascii b digit = grind (arith)

some_bytes-ok : (read : Result (List ℕ) FromHexError) (piece : List ℕ) → some_bytes read ≡ Some piece
    → (bytes : List ℕ) × (read ≡ Ok bytes)
some_bytes-ok (Ok bytes) piece is = (bytes, refl)
some_bytes-ok (Err e) piece is = absurd (cc is)

digits_ascii : (digits piece : List ℕ) → piece_of digits ≡ Some piece → IsAscii digits
digits_ascii digits piece is =
    let read = some_bytes-ok (decode_of digits) piece is in
    IsAscii-from_all digits
    (λ k d below. is_hex_digit-ascii (get_or digits k d) ((decode_of-ok digits read.0 read.1).1 k d below))

-- the word and a blank are ASCII
word_ascii : IsAscii (66 ∷ 89 ∷ 84 ∷ 69 ∷ 83 ∷ 32 ∷ [])
word_ascii =
    IsAscii-cons 66 (89 ∷ 84 ∷ 69 ∷ 83 ∷ 32 ∷ []) (lit< tt) (IsAscii-cons 89 (84 ∷ 69 ∷ 83 ∷ 32 ∷ []) (lit< tt)
    (IsAscii-cons 84 (69 ∷ 83 ∷ 32 ∷ []) (lit< tt) (IsAscii-cons 69 (83 ∷ 32 ∷ []) (lit< tt)
    (IsAscii-cons 83 (32 ∷ []) (lit< tt) (IsAscii-cons 32 [] (lit< tt) IsAscii-nil)))))

line_text : (name digits : List ℕ) → IsUtf8 name → IsAscii digits
    → IsUtf8 ((66 ∷ 89 ∷ 84 ∷ 69 ∷ 83 ∷ 32 ∷ []) ++ (name ++ (32 ∷ digits)))
line_text name digits text ascii =
    IsUtf8-append (66 ∷ 89 ∷ 84 ∷ 69 ∷ 83 ∷ 32 ∷ []) (name ++ (32 ∷ digits))
    (IsUtf8-from_ascii (66 ∷ 89 ∷ 84 ∷ 69 ∷ 83 ∷ 32 ∷ []) word_ascii)
    (IsUtf8-append name (32 ∷ digits) text (IsUtf8-from_ascii (32 ∷ digits) (IsAscii-cons 32 digits (lit< tt) ascii)))

-- the words of such a line
line_words : (rest : List ℕ) → words_of (66 ∷ 89 ∷ 84 ∷ 69 ∷ 83 ∷ 32 ∷ rest) ≡ codes "BYTES" ∷ words_of rest
line_words rest = refl

words_event : (tables : TableFile) (words : List (List ℕ))
    → event_of_words tables (codes "BYTES" ∷ words) ≡ event_on_line (line_named tables) (codes "BYTES" ∷ words)
words_event tables words = refl

piece_event : (digits piece : List ℕ) (found : LineId) → piece_of digits ≡ Some piece
    → bytes_on (codes "BYTES") digits found ≡ Some (Bytes found piece)
piece_event digits piece found read = ap (option_map (λ p. Bytes found p)) read

-- a line that begins so, and goes on with digits
pub plain_line : (tables : TableFile) (front digits : List ℕ) (found : LineId) (piece : List ℕ)
    → IsStart tables front found → piece_of digits ≡ Some piece
    → script_event tables (front ++ digits) ≡ Some (Bytes found piece)
unfolding script_event
plain_line tables front digits found piece start read =
    let name = start.name in
    let line = front ++ digits in
    let rest = name ++ (32 ∷ digits) in
    let begins : line ≡ 66 ∷ 89 ∷ 84 ∷ 69 ∷ 83 ∷ 32 ∷ rest = ap (λ (f : List ℕ). f ++ digits) start.spelled
    ∙ ap (λ (r : List ℕ). 66 ∷ 89 ∷ 84 ∷ 69 ∷ 83 ∷ 32 ∷ r) (append_assoc name (32 ∷ []) digits) in
    let words : words_of rest ≡ name ∷ words_of digits = slice_split_at is_blank name 32 digits start.word refl in
    let as_text : is_utf8 line ≡ true = is_utf8-from_IsUtf8 line
    (subst IsUtf8 (sym begins) (line_text name digits start.text (digits_ascii digits piece read))) in
    cond-true (is_utf8 line) (event_of_words tables (words_of line)) None as_text
    ∙ (ap (λ (l : List ℕ). event_of_words tables (words_of l)) begins
    ∙ (ap (event_of_words tables) (line_words rest)
    ∙ (words_event tables (words_of rest)
    ∙ (ap (λ (ws : List (List ℕ)). event_on_line (line_named tables) (codes "BYTES" ∷ ws)) words
    ∙ (digits_event (line_named tables) (codes "BYTES") name digits
    ∙ (ap (option_and_then (bytes_on (codes "BYTES") digits)) start.owner
    ∙ piece_event digits piece found read))))))
