-- What the lines of a text become.
use Rattle.std.proofs.Common.{◌≡◌, ℕ, ◌+◌, ◌<◌, ◌≤◌, Bool, true, false, List, [], ◌∷◌, length, sym, ap, ◌∙◌}
use Rattle.std.proofs.Common.{cond, refl, subst}
use Rattle.std.proofs.Common.{Option, None, Some, Result, Ok, Err}
use Rattle.std.specs.List.{All, AllByRecursion}
use Rattle.std.specs.Str.{IsUtf8, is_utf8}
use Rattle.std.proofs.lemmas.Bool.{false_from_ne_true, false≢true, le-ltb, lt-ltb, ltb-true}
use Rattle.std.proofs.lemmas.List.Elements.{recursion_from_All}
use Rattle.std.proofs.lemmas.Str.{IsUtf8-from_is_utf8, is_utf8-from_IsUtf8}
use Rattle.njh_encode.specs.declared.fault.Reason.{Reason}
use Rattle.njh_encode.specs.declared.fault.Reason.TheVariants.{LongLine, NoText}
use Rattle.njh_encode.specs.declared.letters.LetterFault.{LetterFault}
use Rattle.njh_encode.specs.declared.letters.LetterFault.TheVariants.{NoFile}
use Rattle.njh_encode.specs.declared.line_states.LineState.{LineState}
use Rattle.njh_io.specs.Lines.{is_first_long, is_long_line, lines_of, max_line_bytes}
use Rattle.njh_encode.specs.Encoded.{Outcome, line_outcome}
use Rattle.njh_encode.specs.Posted.{is_of_file}
use Rattle.njh_encode.specs.Scripts.{AreAnswered, Becomes, BecomesThen, Encoding, LinesBecome, Texts, bad_line}
use Rattle.njh_encode.specs.Scripts.{behind_script}
use Rattle.njh_encode.specs.Scripts.{bytes_taken, encoding_of, encoding_of_lines, file_taken, outcome_in_text}
use Rattle.njh_encode.specs.Scripts.{then_lines}
use Rattle.njh_encode.specs.Scripts.{words_taken}

-- a line that is too long is bad
long-outcome : (texts : Texts) (states : List LineState) (line : List ℕ) → max_line_bytes < length line
    → outcome_in_text texts states line ≡ Err LongLine
unfolding outcome_in_text
long-outcome texts states line long =
    ap (λ (t : Bool). cond t (Err LongLine) (bytes_taken texts states line)) (lt-ltb max_line_bytes (length line) long)

-- a line that isn't is what its bytes are
pub short_outcome : (texts : Texts) (states : List LineState) (line : List ℕ) → length line ≤ max_line_bytes
    → outcome_in_text texts states line ≡ bytes_taken texts states line
unfolding outcome_in_text
short_outcome texts states line short =
    ap (λ (t : Bool). cond t (Err LongLine) (bytes_taken texts states line)) (le-ltb max_line_bytes (length line) short)

-- ---- texts by which a line may be taken

-- those that are known, or those that give what a name gave
abbrev pub answered : Option Texts → Result (List ℕ) LetterFault → Texts
answered None given = λ name. given
answered (Some known) given = known

pub are_answered : (known : Option Texts) (given : Result (List ℕ) LetterFault)
    → AreAnswered known (answered known given)
are_answered None given = tt
are_answered (Some known) given = refl

-- they give what the name gave
pub answered_gives : (known : Option Texts) (name : List ℕ) (given : Result (List ℕ) LetterFault)
    → ((texts : Texts) → known ≡ Some texts → texts name ≡ given) → answered known given name ≡ given
answered_gives None name given holds = refl
answered_gives (Some texts) name given holds = holds texts refl

-- some, if nothing was asked for
abbrev pub some_texts : Option Texts → Texts
some_texts known = answered known (Err NoFile)

pub some_answered : (known : Option Texts) → AreAnswered known (some_texts known)
some_answered known = are_answered known (Err NoFile)

-- lines become something
becomes-then : (number : ℕ) (o : Result Outcome Reason) (behind : List LineState → Encoding → Type 0)
    (next : List LineState → Encoding) → ((states : List LineState) → behind states (next states))
    → BecomesThen number o behind (then_lines number o next)
becomes-then number (Ok outcome) behind next each = (next outcome.states, each outcome.states, refl)
becomes-then number (Err reason) behind next each = refl

pub becomes : (known : Option Texts) (lines : List (List ℕ)) (states : List LineState) (number : ℕ)
    → LinesBecome known states number lines (encoding_of_lines (some_texts known) states number lines)
becomes known [] states number = refl
becomes known (line ∷ lines) states number = (
  some_texts known,
  some_answered known,
  becomes-then number (outcome_in_text (some_texts known) states line)
      (λ after. LinesBecome known after (number + 1) lines)
      (λ after. encoding_of_lines (some_texts known) after (number + 1) lines)
      (λ after. becomes known lines after (number + 1)),
)

-- ---- lines that are too long

-- a line is refused
pub bad-becomes : (known : Option Texts) (texts : Texts) (states : List LineState) (number : ℕ) (line : List ℕ)
    (rest : List (List ℕ)) (reason : Reason) → AreAnswered known texts → outcome_in_text texts states line ≡ Err reason
    → LinesBecome known states number (line ∷ rest) (bad_line number reason)
bad-becomes known texts states number line rest reason may is =
    let P : Result Outcome Reason → Type 0 =
    λ o. BecomesThen number o (λ after. LinesBecome known after (number + 1) rest)
    (bad_line number reason) in
    (texts, may, subst P (sym is) refl)

long-bad : (known : Option Texts) (states : List LineState) (number : ℕ) (line : List ℕ) (rest : List (List ℕ))
    → max_line_bytes < length line → LinesBecome known states number (line ∷ rest) (bad_line number LongLine)
long-bad known states number line rest long =
    bad-becomes known (some_texts known) states number line rest LongLine (some_answered known)
    (long-outcome (some_texts known) states line long)

-- the first of some lines is too long
pub long-first : (known : Option Texts) (states : List LineState) (number : ℕ) (lines : List (List ℕ))
    → is_first_long lines ≡ true → LinesBecome known states number lines (bad_line number LongLine)
long-first known states number [] long = absurd (false≢true long)
long-first known states number (line ∷ lines) long =
    long-bad known states number line lines (ltb-true max_line_bytes (length line) long)

-- what the bytes of a line become if they are a text, and if they aren't
pub text_taken : (texts : Texts) (states : List LineState) (line words : List ℕ) → words ≡ line → IsUtf8 line
    → bytes_taken texts states line ≡ words_taken texts states words
unfolding bytes_taken
text_taken texts states line words same text =
    ap (λ (t : Bool). cond t (words_taken texts states line) (Err NoText)) (is_utf8-from_IsUtf8 line text)
    ∙ ap (words_taken texts states) (sym same)

pub no_text_taken : (texts : Texts) (states : List LineState) (line : List ℕ) → (IsUtf8 line → ⊥)
    → bytes_taken texts states line ≡ Err NoText
unfolding bytes_taken
no_text_taken texts states line broken =
    ap (λ (t : Bool). cond t (words_taken texts states line) (Err NoText))
    (false_from_ne_true _ (λ text. broken (IsUtf8-from_is_utf8 line text)))

-- ---- where what becomes of a text is settled

then-settles : (number : ℕ) (o : Result Outcome Reason) (behind : List LineState → Encoding → Type 0)
    (next : List LineState → Encoding) → ((states : List LineState) (e : Encoding) → behind states e → e ≡ next states)
    → (e : Encoding) → BecomesThen number o behind e → e ≡ then_lines number o next
then-settles number (Ok outcome) behind next each e b =
    b.2 ∙ ap (behind_script outcome.script) (each outcome.states b.0 b.1)
then-settles number (Err reason) behind next each e b = b

-- each line becomes the same by all texts by which it may be taken
abbrev pub IsSettled : (known : Option Texts) (texts : Texts) (line : List ℕ) → Type 0
IsSettled known texts line = (answer : Texts) → AreAnswered known answer → (states : List LineState)
    → outcome_in_text answer states line ≡ outcome_in_text texts states line

settle : (known : Option Texts) (texts : Texts) (lines : List (List ℕ)) (states : List LineState) (number : ℕ)
    (e : Encoding)
    → AllByRecursion (IsSettled known texts) lines → LinesBecome known states number lines e
    → e ≡ encoding_of_lines texts states number lines
settle known texts [] states number e each b = b
settle known texts (line ∷ lines) states number e each b =
    let Behind : List LineState → Encoding → Type 0 = λ after. LinesBecome known after (number + 1) lines in
    let P : Result Outcome Reason → Type 0 = λ o. BecomesThen number o Behind e in
    then-settles number (outcome_in_text texts states line) Behind
    (λ after. encoding_of_lines texts after (number + 1) lines)
    (λ after rest r. settle known texts lines after (number + 1) rest each.1 r) e (subst P (each.0 b.0 b.1 states) b.2)

-- texts that are known
known-each : (texts : Texts) (lines : List (List ℕ)) → AllByRecursion (IsSettled (Some texts) texts) lines
known-each texts [] = tt
known-each texts (line ∷ lines) =
    (λ answer is states. ap (λ (t : Texts). outcome_in_text t states line) is, known-each texts lines)

pub known_settles : (texts : Texts) (text : List ℕ) (e : Encoding) → Becomes (Some texts) text e
    → e ≡ encoding_of texts text
known_settles texts text e b = settle (Some texts) texts (lines_of text) [] 1 e (known-each texts (lines_of text)) b

-- lines that say no file
no-file-words : (texts : Texts) (states : List LineState) (line : List ℕ) → is_of_file line ≡ false
    → words_taken texts states line ≡ line_outcome states line
unfolding words_taken
no-file-words texts states line none =
    ap (λ (t : Bool). cond t (file_taken texts states line) (line_outcome states line)) none

no-file-line : (known : Option Texts) (texts : Texts) (line : List ℕ) → is_of_file line ≡ false
    → IsSettled known texts line
unfolding outcome_in_text bytes_taken
no-file-line known texts line none answer may states =
    ap (λ (w : Result Outcome Reason). cond (is_long_line line) (Err LongLine) (cond (is_utf8 line) w (Err NoText)))
    (no-file-words answer states line none ∙ sym (no-file-words texts states line none))

no-file-each : (known : Option Texts) (texts : Texts) (lines : List (List ℕ))
    → AllByRecursion (λ line. is_of_file line ≡ false) lines → AllByRecursion (IsSettled known texts) lines
no-file-each known texts [] none = tt
no-file-each known texts (line ∷ lines) none =
    (no-file-line known texts line none.0, no-file-each known texts lines none.1)

pub no_file_settles : (known : Option Texts) (texts : Texts) (text : List ℕ) (e : Encoding)
    → All (λ line. is_of_file line ≡ false) (lines_of text) → Becomes known text e → e ≡ encoding_of texts text
no_file_settles known texts text e none b =
    settle known texts (lines_of text) [] 1 e
    (no-file-each known texts (lines_of text) (recursion_from_All _ (lines_of text) none)) b
