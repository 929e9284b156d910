-- What a text in words becomes, line by line.
use Rattle.std.specs.Prelude.{◌≡◌, ℕ, ◌+◌, List, [], ◌∷◌, ◌++◌, Option, Some, None, Result, Ok, Err, cond, ⊤}
use Rattle.std.specs.Str.{is_utf8}
use Rattle.std.specs.Io.KnownBytes.{Appends}
use Rattle.njh_io.specs.Lines.{is_long_line, lines_of}
use Rattle.njh_io.specs.Written.{AppendsBeginning}
use Rattle.njh_encode.specs.declared.fault.EncodeFault.{EncodeFault}
use Rattle.njh_encode.specs.declared.fault.Reason.{Reason}
use Rattle.njh_encode.specs.declared.fault.Reason.TheVariants.{LongFile, LongLine, Memory, NoFile, NoLine, NoSuchFile}
use Rattle.njh_encode.specs.declared.fault.Reason.TheVariants.{NoText, UnreadFile}
use Rattle.njh_encode.specs.declared.letters.LetterFault.{LetterFault}
use Rattle.njh_encode.specs.declared.letters.LetterFault.TheVariants as letter
use Rattle.njh_encode.specs.declared.posting.Posting.{Posting}
use Rattle.njh_encode.specs.declared.line_states.LineState.{LineState}
use Rattle.njh_encode.specs.Encoded.{Outcome, line_outcome}
use Rattle.njh_encode.specs.LineStates.{state_of, with_state}
use Rattle.njh_encode.specs.Packing.{blocks_script, counted_by, file_blocks, records_of}
use Rattle.njh_encode.specs.Posted.{is_of_file, letter_in, posting_in}
use Rattle.njh_encode.specs.Words.{back, behind, front, line_in}

-- ---- files

-- what each name of a text gives
abbrev pub Texts : Type 0
Texts = List ℕ → Result (List ℕ) LetterFault

abbrev pub reason_of : LetterFault → Reason
reason_of letter.NoFile = NoSuchFile
reason_of letter.TooLong = LongFile
reason_of letter.Device = UnreadFile
reason_of letter.Memory = Memory

-- what a file becomes on a line of the hub: the script with its blocks, and the count after them
abbrev pub posted : List LineState → List ℕ → List ℕ → Posting → Result (List (List ℕ)) Reason → Result Outcome Reason
posted states field name p (Err reason) = Err reason
posted states field name p (Ok records) = Ok (record {
  saying = None;
  script = blocks_script name (file_blocks (state_of field states) p records);
  states = with_state (counted_by (file_blocks (state_of field states) p records) (state_of field states)) states;
})

abbrev pub posted_of : List LineState → List ℕ → List ℕ → Posting → Result (List ℕ) LetterFault → Result Outcome Reason
posted_of states field name p (Ok letter) = posted states field name p (records_of (lines_of letter))
posted_of states field name p (Err fault) = Err (reason_of fault)

-- by its words: what comes before the comma, and the text after it
abbrev pub posted_by : Texts → List LineState → List ℕ → List ℕ → Option Posting → Option (List ℕ)
    → Result Outcome Reason
posted_by texts states field name None letter = Err NoFile
posted_by texts states field name (Some p) None = Err NoFile
posted_by texts states field name (Some p) (Some letter) = posted_of states field name p (texts letter)

abbrev pub posted_on : Texts → List LineState → Option (List ℕ) → List ℕ → List ℕ → Result Outcome Reason
posted_on texts states None name file = Err NoLine
posted_on texts states (Some field) name file = posted_by texts states field name (posting_in file) (letter_in file)

-- what a line that says a file becomes
unfoldable pub file_taken : Texts → List LineState → List ℕ → Result Outcome Reason
file_taken texts states line =
    posted_on texts states (line_in (front 58 line)) (front 58 line) (behind (behind (back 58 line)))

-- ---- lines

-- what a line of words becomes
unfoldable pub words_taken : Texts → List LineState → List ℕ → Result Outcome Reason
words_taken texts states line = cond (is_of_file line) (file_taken texts states line) (line_outcome states line)

-- what the bytes of a line become, which have to be a text in UTF-8
unfoldable pub bytes_taken : Texts → List LineState → List ℕ → Result Outcome Reason
bytes_taken texts states line = cond (is_utf8 line) (words_taken texts states line) (Err NoText)

-- what a line of a text becomes, or why it is bad: it may have too many bytes
unfoldable pub outcome_in_text : Texts → List LineState → List ℕ → Result Outcome Reason
outcome_in_text texts states line = cond (is_long_line line) (Err LongLine) (bytes_taken texts states line)

-- ---- texts

-- the lines of a script that lines of words become, and the first bad line, if there is one: up to it alone
pub record Encoding : Type 0 where
  pub script : List ℕ
  pub bad : Option EncodeFault

abbrev pub behind_script : List ℕ → Encoding → Encoding
behind_script front encoding = record { script = front ++ encoding.script; bad = encoding.bad }

abbrev pub bad_line : ℕ → Reason → Encoding
bad_line number reason = record { script = []; bad = Some (record { line = number; reason = reason }) }

-- of a line with this number, and then of those after it
abbrev pub then_lines : ℕ → Result Outcome Reason → (List LineState → Encoding) → Encoding
then_lines number (Ok outcome) behind = behind_script outcome.script (behind outcome.states)
then_lines number (Err reason) behind = bad_line number reason

-- of lines that are counted from a number on
abbrev pub encoding_of_lines : Texts → List LineState → ℕ → List (List ℕ) → Encoding
encoding_of_lines texts states number [] = record { script = []; bad = None }
encoding_of_lines texts states number (line ∷ lines) =
    then_lines number (outcome_in_text texts states line) (λ after. encoding_of_lines texts after (number + 1) lines)

-- of a text
abbrev pub encoding_of : Texts → List ℕ → Encoding
encoding_of texts text = encoding_of_lines texts [] 1 (lines_of text)

-- ---- texts whose names give what isn't known

-- texts by which a line may be taken: those that are known, or any
abbrev pub AreAnswered : (known : Option Texts) (texts : Texts) → Type 0
AreAnswered None texts = ⊤
AreAnswered (Some known) texts = texts ≡ known

-- a line with this number, and then those after it, become this
abbrev pub BecomesThen : ℕ → Result Outcome Reason → (behind : List LineState → Encoding → Type 0) → Encoding → Type 0
BecomesThen number (Ok outcome) behind encoding =
    (rest : Encoding) × behind outcome.states rest × (encoding ≡ behind_script outcome.script rest)
BecomesThen number (Err reason) behind encoding = encoding ≡ bad_line number reason

-- Lines that are counted from a number on become this. Each is taken by texts of its own if none are known: a file
-- may have changed when its name comes again.
abbrev pub LinesBecome : (known : Option Texts) → List LineState → ℕ → List (List ℕ) → Encoding → Type 0
LinesBecome known states number [] encoding = encoding ≡ record { script = []; bad = None }
LinesBecome known states number (line ∷ lines) encoding = (texts : Texts) × AreAnswered known texts
    × BecomesThen number (outcome_in_text texts states line) (λ after. LinesBecome known after (number + 1) lines)
    encoding

-- a text becomes this
abbrev pub Becomes : (known : Option Texts) (text : List ℕ) (encoding : Encoding) → Type 0
Becomes known text encoding = LinesBecome known [] 1 (lines_of text) encoding

-- What a text becomes was written, and this is its first bad line, or it has none; or a beginning of that was written.
abbrev pub IsEncodedTo : (known : Option Texts) (bad : Option EncodeFault) (old new : Option (List ℕ))
    → (text : List ℕ) → Type 0
IsEncodedTo known bad old new text = (encoding : Encoding) × Becomes known text encoding × (encoding.bad ≡ bad)
    × Appends old new encoding.script

abbrev pub IsEncodedInPart : (known : Option Texts) (old new : Option (List ℕ)) → (text : List ℕ) → Type 0
IsEncodedInPart known old new text = (encoding : Encoding) × Becomes known text encoding
    × AppendsBeginning old new encoding.script
