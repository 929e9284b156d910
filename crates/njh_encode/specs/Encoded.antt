-- What a line of words becomes: the frames that it says, as values, and the lines of a script that carry their bytes.
use Rattle.std.specs.Prelude.{◌≡◌, ◌≢◌, ℕ, ◌+◌, ◌%◌, ◌==◌, Bool, true, false, List, [], ◌∷◌, ◌++◌, length, Option}
use Rattle.std.specs.Prelude.{Some, None}
use Rattle.std.specs.Prelude.{Result, Ok, Err, cond, codes, bytes_eq, nat_lt, ◌&&◌, ◌||◌}
use Rattle.std.specs.Prelude.{IfSome}
use Rattle.std.specs.List.{list_all}
use Rattle.hex.specs.Hex.{encode_lower, is_hex_digit}
use Rattle.njh_bisync.specs.Frames.{Received, Enquiry, Ack0, Nak, Eot, Text, Spoiled}
use Rattle.njh_bisync.specs.Reading.{Nothing, Reads}
use Rattle.njh_bisync.specs.Written.{control_frame, text_bytes}
use Rattle.njh_block.specs.Blocks.{Block, Item, Data, Control, General, control_byte, rcb_of, read_block, stream_of}
use Rattle.njh_block.specs.Blocks.{text_of}
use Rattle.njh_block.specs.Writing.{read_back}
use Rattle.njh_header.specs.SignOns.{sign_on, sign_on_bytes}
use Rattle.njh_nmr.specs.Nodal.{nodal_of, record_of}
use Rattle.njh_encode.specs.declared.fault.Reason.{Reason}
use Rattle.njh_encode.specs.declared.fault.Reason.TheVariants.{Memory, NoLine, NoSuchWords}
use Rattle.njh_encode.specs.declared.line_states.LineState.{LineState}
use Rattle.njh_encode.specs.declared.statement.Statement.{Statement}
use Rattle.njh_encode.specs.declared.statement.Statement.TheVariants as says
use Rattle.njh_encode.specs.LineStates.{counted, signed_on, state_of, with_state}
use Rattle.njh_encode.specs.Statements.{statement_in}
use Rattle.njh_encode.specs.Words.{back, behind, front, is_name, line_in, first_word}

-- ---- frames

-- the block of one record that suspends nothing
abbrev pub block_with : ℕ → Item → Block
block_with bcb item = record { bcb = bcb; fcs = (0x8f, 0xcf); items = item ∷ [] }

-- of the line's next count
abbrev pub next_block : LineState → Item → Block
next_block state item = block_with (0x80 + state.count % 16) item

abbrev pub frame_of_block : Block → Received
frame_of_block b = Text (text_of b.bcb b.fcs b.items)

-- the frame that a statement says
abbrev pub said_frame : LineState → Statement → Option Received
said_frame state (says.Control control) = Some (control_frame control)
said_frame state says.End = Some Eot
said_frame state says.Tick = None
said_frame state says.Garbled = None
said_frame state says.Lost = None
said_frame state (says.Request rcb stream) =
    Some (frame_of_block (next_block state (Control (control_byte rcb) (rcb_of stream))))
said_frame state (says.SignOn srcb on) = Some (frame_of_block (block_with 0xa0 (General srcb (sign_on_bytes on))))
said_frame state says.SignOff = Some (frame_of_block (next_block state (General 0xc2 [])))
said_frame state (says.Message n) = Some (frame_of_block (next_block state (Data 0x9a 0x80 (record_of n))))

-- what is kept of the line after a statement
abbrev pub state_after : LineState → Statement → LineState
state_after state (says.Control control) = state
state_after state says.End = state
state_after state says.Tick = state
state_after state says.Garbled = state
state_after state says.Lost = state
state_after state (says.Request rcb stream) = counted state
state_after state (says.SignOn srcb on) = signed_on on.block state
state_after state says.SignOff = counted state
state_after state (says.Message n) = counted state

-- ---- lines of a script

-- a frame's bytes
abbrev pub bytes_of_frame : Received → List ℕ
bytes_of_frame Enquiry = 0x01 ∷ 0x2d ∷ []
bytes_of_frame Ack0 = 0x10 ∷ 0x70 ∷ []
bytes_of_frame Nak = 0x3d ∷ []
bytes_of_frame Eot = 0x37 ∷ []
bytes_of_frame (Text held) = text_bytes held
bytes_of_frame Spoiled = []

-- words as they are, kept whole
unfoldable pub label : List ℕ → List ℕ
label words = words

-- a line of a script: a word, the name of a line, and what follows that
unfoldable pub script_line : List ℕ → List ℕ → List ℕ → List ℕ
script_line word name rest = label word ++ name ++ rest ++ 10 ∷ []

-- digits after a name
unfoldable pub digits_line : List ℕ → List ℕ → List ℕ
digits_line name digits = script_line (codes "BYTES ") name (32 ∷ digits)

-- the line with the bytes of a frame
unfoldable pub bytes_line : List ℕ → List ℕ → List ℕ
bytes_line name bytes = digits_line name (encode_lower bytes)

abbrev pub signal_line : Statement → List ℕ → List ℕ
signal_line says.Tick name = script_line (codes "TICK ") name []
signal_line says.Garbled name = script_line (codes "GARBLED ") name []
signal_line says.Lost name = script_line (codes "LOST ") name []
signal_line other name = []

abbrev pub frame_or_signal : Option Received → Statement → List ℕ → List ℕ
frame_or_signal (Some frame) statement name = bytes_line name (bytes_of_frame frame)
frame_or_signal None statement name = signal_line statement name

-- the line of a script that a statement on a line of this name becomes
abbrev pub said_line : LineState → List ℕ → Statement → List ℕ
said_line state name statement = frame_or_signal (said_frame state statement) statement name

-- ---- a line of words

-- a statement, and what was kept of its line
pub record Saying : Type 0 where
  pub state : LineState
  pub statement : Statement

-- what is said, if it is a statement; what is appended to the script; and what is then kept of each line
pub record Outcome : Type 0 where
  pub saying : Option Saying
  pub script : List ℕ
  pub states : List LineState

abbrev pub outcome_of_statement : List ℕ → List LineState → LineState → Statement → Outcome
outcome_of_statement name states state statement = record {
  saying = Some (record { state = state; statement = statement });
  script = said_line state name statement;
  states = with_state (state_after state statement) states;
}

abbrev pub outcome_of : List ℕ → List LineState → LineState → Result Statement Reason → Result Outcome Reason
outcome_of name states state (Ok statement) = Ok (outcome_of_statement name states state statement)
outcome_of name states state (Err reason) = Err reason

-- hex digits, two for each byte and one byte at least
unfoldable pub are_hex : List ℕ → Bool
are_hex digits = nat_lt 0 (length digits) && ((length digits % 2 == 0) && list_all is_hex_digit digits)

-- what is no statement
abbrev pub kept_as : List LineState → List ℕ → Outcome
kept_as states text = record { saying = None; script = text; states = states }

-- bytes that are said in hex count for nothing
unfoldable pub bytes_outcome : List LineState → List ℕ → List ℕ → Result Outcome Reason
bytes_outcome states name digits =
    cond (are_hex digits) (Ok (kept_as states (digits_line name digits))) (Err NoSuchWords)

unfoldable pub statement_outcome : List LineState → List ℕ → List ℕ → List ℕ → Result Outcome Reason
statement_outcome states field name text = outcome_of name states (state_of field states) (statement_in text)

-- what is right of the colon and its blank, on a line of this name
unfoldable pub words_outcome : List LineState → List ℕ → List ℕ → List ℕ → Result Outcome Reason
words_outcome states field name text =
    cond (bytes_eq (first_word text) (codes "bytes")) (bytes_outcome states name (behind text))
    (statement_outcome states field name text)

abbrev pub named_outcome : List LineState → Option (List ℕ) → List ℕ → List ℕ → Result Outcome Reason
named_outcome states None name text = Err NoLine
named_outcome states (Some field) name text =
    cond (length (first_word text) == 0) (words_outcome states field name (behind text)) (Err NoSuchWords)

-- a line with a colon
unfoldable pub colon_outcome : List LineState → List ℕ → Result Outcome Reason
colon_outcome states line = named_outcome states (line_in (front 58 line)) (front 58 line) (back 58 line)

-- the words of an order
abbrev pub is_order_word : List ℕ → Bool
is_order_word word = bytes_eq word (codes "ORDER") || bytes_eq word (codes "TELL")

-- a line of a script by its first word
unfoldable pub is_script_word : List ℕ → Bool
is_script_word word =
    bytes_eq word (codes "BYTES") || (bytes_eq word (codes "TICK") || (bytes_eq word (codes "GARBLED")
    || (bytes_eq word (codes "LOST") || (bytes_eq word (codes "ROUTES") || is_order_word word))))

-- a blank comes first
abbrev pub is_indented : List ℕ → Bool
is_indented [] = false
is_indented (b ∷ bs) = b == 32

unfoldable pub is_direction : List ℕ → Bool
is_direction word = bytes_eq word (codes "in") || bytes_eq word (codes "out")

-- the words of a frame, as `decode` prints them: the name of a line and ` in: ` or ` out: ` come before them
unfoldable pub is_of_frame : List ℕ → Bool
is_of_frame line =
    is_name (first_word line) && (is_direction (front 58 (behind line)) && is_indented (back 58 (behind line)))

-- a line in words of `decode`, which is left out: those of a frame, or those of a record, which a blank comes before
unfoldable pub is_left_out : List ℕ → Bool
is_left_out line = is_indented line || is_of_frame line

-- an empty line, or a comment
abbrev pub is_comment : List ℕ → Bool
is_comment [] = true
is_comment (b ∷ bs) = b == 35

-- a line that is in the script as it is
unfoldable pub is_kept : List ℕ → Bool
is_kept line = is_comment line || is_script_word (first_word line)

-- what a line becomes, or why it is bad
unfoldable pub line_outcome : List LineState → List ℕ → Result Outcome Reason
line_outcome states line =
    cond (is_left_out line) (Ok (kept_as states []))
    (cond (is_kept line) (Ok (kept_as states (line ++ 10 ∷ [])))
    (cond (bytes_eq (first_word line) (codes "routes"))
    (Ok (kept_as states (script_line (codes "ROUTES ") (behind line) [])))
    (colon_outcome states line)))

-- ---- what the bytes read as

-- The bytes of a frame are that frame and no other, by the grammar of frames.
abbrev pub ReadsFrame : Received → Type 0
ReadsFrame frame = Reads (bytes_of_frame frame) (frame ∷ []) Nothing

-- So are those of a block, and its text is that block by the grammar of blocks; a general record takes the closing 00
-- too.
pub record ReadsBlock (b : Block) : Type 0 where
  pub frame : ReadsFrame (frame_of_block b)
  pub block : read_block (text_of b.bcb b.fcs b.items) ≡ Ok (record b { items = read_back b.items })

-- The bytes that a statement sends read as what was said, each record too.
abbrev pub ReadsAsSaid : LineState → Statement → Type 0
ReadsAsSaid state (says.Control control) = ReadsFrame (control_frame control)
ReadsAsSaid state says.End = ReadsFrame Eot
ReadsAsSaid state says.Tick = Unit {0}
ReadsAsSaid state says.Garbled = Unit {0}
ReadsAsSaid state says.Lost = Unit {0}
ReadsAsSaid state (says.Request rcb stream) =
    ReadsBlock (next_block state (Control (control_byte rcb) (rcb_of stream)))
    × (stream_of 4 (rcb_of stream) ≡ Some stream)
ReadsAsSaid state (says.SignOn srcb on) =
    ReadsBlock (block_with 0xa0 (General srcb (sign_on_bytes on))) × (sign_on (sign_on_bytes on ++ 0 ∷ []) ≡ Ok on)
ReadsAsSaid state says.SignOff = ReadsBlock (next_block state (General 0xc2 []))
ReadsAsSaid state (says.Message n) =
    ReadsBlock (next_block state (Data 0x9a 0x80 (record_of n))) × (nodal_of (record_of n) ≡ Ok n)

-- ---- what a call does

-- The script got what the outcome says, and each line's state is as it says.
pub record IsAsSaid (outcome : Outcome) (after : List LineState) (script grown : List ℕ) : Type 0 where
  pub appended : grown ≡ script ++ outcome.script
  pub kept : after ≡ outcome.states
  pub reads : IfSome outcome.saying (λ said. ReadsAsSaid said.state said.statement)

abbrev pub IsDone : Result Outcome Reason → List LineState → List ℕ → List ℕ → Type 0
IsDone (Ok outcome) after script grown = IsAsSaid outcome after script grown
IsDone (Err reason) after script grown = ⊥

-- A call did what the outcome says, or was refused for its reason and changed nothing; want of memory aside.
abbrev pub IsAppended : Result (Unit {0}) Reason → Result Outcome Reason → List LineState → List LineState → List ℕ
    → List ℕ → Type 0
IsAppended (Ok done) outcome states after script grown = IsDone outcome after script grown
IsAppended (Err reason) outcome states after script grown =
    reason ≢ Memory → (outcome ≡ Err reason) × (after ≡ states) × (grown ≡ script)
