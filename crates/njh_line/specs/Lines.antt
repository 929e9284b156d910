-- A line: its session, the last frame that it sent, NAKs aside, and what waits to be sent.
use Rattle.std.specs.Prelude.{ℕ, ◌+◌, ◌%◌, ◌≤◌, Bool, true, false, List, [], ◌∷◌, ◌++◌, length, drop, nat_lt, cond}
use Rattle.njh_bisync.specs.Limits.{longest_frame}
use Rattle.njh_line.specs.declared.config.Config.{Config}
use Rattle.njh_block.specs.declared.answer.Answer.{Answer}
use Rattle.njh_line.specs.declared.ending.SessionEnd.{SessionEnd}
use Rattle.njh_line.specs.declared.sent.Sent as declared_sent
use Rattle.njh_line.specs.declared.sent.Sent.TheVariants as went
use Rattle.njh_line.specs.declared.session.Session.{Session}
use Rattle.njh_line.specs.LineTable.{Input, table_outcome}
use Rattle.njh_line.specs.Sessions.{fresh, ended_session}

-- how many answers may wait: the product's own limit
abbrev pub max_answers : ℕ
max_answers = 32

-- how many nodal messages may wait: the product's own limit
abbrev pub max_messages : ℕ
max_messages = 64

pub record LineState : Type 0 where
  pub config : Config
  pub session : Session
  pub last : List ℕ
  pub answers : List Answer
  pub messages : List (List ℕ)

abbrev pub fresh_line : Config → LineState
fresh_line config = record { config = config; session = fresh; last = []; answers = []; messages = [] }

abbrev pub with_session : Session → LineState → LineState
with_session session line = record line { session = session }

-- after an input
abbrev pub after_input : Input → LineState → LineState
after_input input line = with_session (table_outcome line.config input line.session).session line

-- What was sent.
pub data LastSent : Type 0 where
  Nothing : LastSent
  Nak : LastSent
  Again : LastSent  -- the last transmission
  Block : (frame : List ℕ) → (fcs : ℕ × ℕ) → LastSent  -- of the hub's own count
  Frame : (frame : List ℕ) → LastSent  -- any other

-- what was sent, where the bytes are lent
abbrev pub sent_value : declared_sent.Sent → LastSent
sent_value went.Nothing = Nothing
sent_value went.Nak = Nak
sent_value went.Again = Again
sent_value (went.Block frame fcs) = Block frame.now fcs
sent_value (went.Frame frame) = Frame frame.now

abbrev pub IsShort : LastSent → Type 0
IsShort (Block frame fcs) = length frame ≤ longest_frame
IsShort (Frame frame) = length frame ≤ longest_frame
IsShort Nothing = Unit {0}
IsShort Nak = Unit {0}
IsShort Again = Unit {0}

-- nothing was sent: the turn is the hub's
abbrev pub with_turn : Session → Session
with_turn s = record s { has_turn = true }

-- a frame was sent: the turn is the peer's
abbrev pub without_turn : Session → Session
without_turn s = record s { has_turn = false }

-- a block of the hub's own count was sent
abbrev pub with_block_count : ℕ × ℕ → Session → Session
with_block_count fcs s = record s { has_turn = false; next_count = (s.next_count + 1) % 16; own_fcs = fcs }

abbrev pub after_sending : LastSent → LineState → LineState
after_sending Nothing line = with_session (with_turn line.session) line
after_sending Nak line = with_session (without_turn line.session) line
after_sending Again line = with_session (without_turn line.session) line
after_sending (Block frame fcs) line = record line { session = with_block_count fcs line.session; last = frame }
after_sending (Frame frame) line = record line { session = without_turn line.session; last = frame }

-- a record ended the session so
abbrev pub after_end : SessionEnd → LineState → LineState
after_end end line = with_session (ended_session end line.session) line

-- an answer waits, where there is room for it
abbrev pub with_answer : Answer → LineState → LineState
with_answer a line =
    record line { answers = cond (nat_lt (length line.answers) max_answers) (line.answers ++ a ∷ []) line.answers }

-- there is room for a nodal message
abbrev pub has_message_room : LineState → Bool
has_message_room line = nat_lt (length line.messages) max_messages

-- a nodal message waits, where there is room for it
abbrev pub with_message : List ℕ → LineState → LineState
with_message m line =
    record line { messages = cond (has_message_room line) (line.messages ++ m ∷ []) line.messages }

abbrev pub without_answer : LineState → LineState
without_answer line = record line { answers = drop 1 line.answers }

abbrev pub without_answers : LineState → LineState
without_answers line = record line { answers = [] }

abbrev pub without_message : LineState → LineState
without_message line = record line { messages = drop 1 line.messages }
