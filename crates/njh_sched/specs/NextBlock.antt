-- What the hub's next block holds (IBM SC23-0070, multileaving): what may come stands in one order, each is judged in
-- the state that those before it leave, and the block takes the longest front that has room.
use Rattle.std.specs.Prelude.{ℕ, ◌+◌, ◌-◌, ◌%◌, Bool, true, false, List, [], ◌∷◌, ◌++◌, length, drop, set, map}
use Rattle.std.specs.Prelude.{replicate, find, slice_get, slice_index_or, option_map, Option, Some, None, nat_lt, not}
use Rattle.std.specs.Prelude.{◌&&◌}
use Rattle.njh_block.specs.Blocks.{Item, Data, Aborted, Control, control_byte, rcb_of, is_on, all_suspended}
use Rattle.njh_block.specs.Blocks.{messages_on}
use Rattle.njh_block.specs.Codes.{kind_of}
use Rattle.njh_block.specs.Writing.{Writing, has_room, with_last}
use Rattle.njh_block.specs.declared.answer.Answer.{Answer}
use Rattle.njh_record.specs.Stored.{Stored}
use Rattle.njh_record.specs.declared.Kind.{Kind}
use Rattle.njh_record.specs.declared.Kind.TheVariants.{In, Out}
use Rattle.njh_spool.specs.declared.State.{State}
use Rattle.njh_spool.specs.declared.State.TheVariants as state
use Rattle.njh_spool.specs.CustomerSpool.{CustomerSpool, WholeFile, with_state}
use Rattle.njh_stream.specs.declared.sender.Sender.{Sender}
use Rattle.njh_stream.specs.declared.sender.Sender.TheVariants.{Idle, Requested, Sending, Aborting}
use Rattle.njh_stream.specs.Sending.{Next, next_of}

-- What a line has to send, and what its peer lets it send.
pub record Outlet : Type 0 where
  pub streams : ℕ  -- of each kind
  pub peer_fcs : ℕ × ℕ  -- the peer's function control sequence
  pub answers : List Answer
  pub messages : List (List ℕ)
  pub senders : List Sender  -- SYSIN 1 to 4, SYSOUT 1 to 4
  pub served : ℕ  -- the stream last served

abbrev pub without_answer : Outlet → Outlet
without_answer o = record o { answers = drop 1 o.answers }

abbrev pub without_message : Outlet → Outlet
without_message o = record o { messages = drop 1 o.messages }

abbrev pub sender_at : ℕ → Outlet → Sender
sender_at k o = slice_index_or o.senders k Idle

abbrev pub with_sender : ℕ → Sender → Outlet → Outlet
with_sender k x o = record o { senders = set o.senders k x }

abbrev pub with_served : ℕ → Outlet → Outlet
with_served k o = record o { served = k }

-- ---- what may come

-- A record that may come next, and what its coming leaves.
pub record Candidate : Type 0 where
  pub item : Item
  pub outlet : Outlet
  pub spool : CustomerSpool

-- the answer that waits longest
abbrev pub answering : Outlet → CustomerSpool → Answer → Candidate
answering o s a = record { item = Control (control_byte a.rcb) a.stream.byte; outlet = without_answer o; spool = s }

abbrev pub answer_of : Outlet → CustomerSpool → Option Candidate
answer_of o s = option_map (answering o s) (slice_get o.answers 0)

-- a stream's file is given up
abbrev pub giving_up : Outlet → CustomerSpool → ℕ → Candidate
giving_up o s k = record { item = Aborted (rcb_of k) 0x80; outlet = with_sender k Idle o; spool = s }

abbrev pub abort_where : Sender → Outlet → CustomerSpool → ℕ → Option Candidate
abort_where Aborting o s k = Some (giving_up o s k)
abort_where _ o s k = None

abbrev pub abort_of : Outlet → CustomerSpool → ℕ → Option Candidate
abort_of o s k = abort_where (sender_at k o) o s k

-- a file that may go on a stream of a kind: it is Ready, and goes by the line
abbrev pub is_ready : State → Bool
is_ready state.Ready = true
is_ready _ = false

abbrev pub same_kind : Kind → Kind → Bool
same_kind In In = true
same_kind In Out = false
same_kind Out In = false
same_kind Out Out = true

abbrev pub may_go : (WholeFile → Bool) → Kind → WholeFile → Bool
may_go goes kind f = is_ready f.state && (same_kind f.kind kind && goes f)

abbrev pub oldest : (WholeFile → Bool) → Kind → CustomerSpool → Option WholeFile
oldest goes kind s = find (may_go goes kind) s.whole

-- a stream asks for a file, which is Sending from then on
abbrev pub asking : Outlet → CustomerSpool → ℕ → ℕ → Candidate
asking o s k number =
    record {
      item = Control 0x90 (rcb_of k);
      outlet = with_sender k (Requested number) o;
      spool = with_state number state.Sending s;
    }

abbrev pub is_idle : Sender → Bool
is_idle Idle = true
is_idle _ = false

-- whether a line has a stream, and it is idle
abbrev pub may_ask : Outlet → ℕ → Bool
may_ask o k = nat_lt (k % 4) o.streams && is_idle (sender_at k o)

abbrev pub request_of : (WholeFile → Bool) → Outlet → CustomerSpool → ℕ → Option Candidate
request_of goes o s k =
    elim (may_ask o k) [ false ↦ None | true ↦ option_map (λ f. asking o s k f.number) (oldest goes (kind_of k) s) ]

-- the nodal message that waits longest
abbrev pub telling : Outlet → CustomerSpool → List ℕ → Candidate
telling o s m = record { item = Data 0x9a 0x80 m; outlet = without_message o; spool = s }

abbrev pub message_of : Outlet → CustomerSpool → Option Candidate
message_of o s = option_map (telling o s) (slice_get o.messages 0)

-- a stream's next record, or its end of file
abbrev pub data_item : ℕ → Option Stored → Item
data_item k (Some r) = Data (rcb_of k) r.srcb r.bytes
data_item k None = Data (rcb_of k) 0x80 []

abbrev pub serving : Outlet → CustomerSpool → ℕ → Next → Candidate
serving o s k next =
    record { item = data_item k next.stored; outlet = with_served k (with_sender k next.sender o); spool = s }

abbrev pub sends_file : Sender → Bool
sends_file (Sending n place) = true
sends_file _ = false

-- whether a stream sends a file, and the peer lets it
abbrev pub may_send : Outlet → ℕ → Bool
may_send o k = is_on o.peer_fcs k && sends_file (sender_at k o)

unfoldable pub streams : List ℕ
streams = 0 ∷ 1 ∷ 2 ∷ 3 ∷ 4 ∷ 5 ∷ 6 ∷ 7 ∷ []

-- the streams in turn, beginning after one
abbrev pub turns_after : ℕ → List ℕ
turns_after k = map (λ n. (k + 1 + n) % 8) streams

-- the stream whose turn it is
abbrev pub next_served : Outlet → Option ℕ
next_served o = find (may_send o) (turns_after o.served)

abbrev pub turn_of : Outlet → CustomerSpool → Option Candidate
turn_of o s = option_map (λ k. serving o s k (next_of (sender_at k o) s)) (next_served o)

-- ---- in which order

-- Where a block's records come from.
pub data Source : Type 0 where
  WaitingAnswer : Source
  StreamAbort : (stream : ℕ) → Source
  StreamRequest : (stream : ℕ) → Source
  WaitingMessage : Source
  StreamTurn : Source

-- what a source has, where so and so files go by the line
abbrev pub candidate : (WholeFile → Bool) → Source → Outlet → CustomerSpool → Option Candidate
candidate goes WaitingAnswer o s = answer_of o s
candidate goes (StreamAbort k) o s = abort_of o s k
candidate goes (StreamRequest k) o s = request_of goes o s k
candidate goes WaitingMessage o s = message_of o s
candidate goes StreamTurn o s = turn_of o s

abbrev pub waiting_answers : Outlet → List Source
waiting_answers o = replicate (length o.answers) WaitingAnswer

abbrev pub aborts : List Source
aborts = map StreamAbort streams

abbrev pub requests : List Source
requests = map StreamRequest streams

abbrev pub messages_where : Bool → List (List ℕ) → List Source
messages_where true messages = replicate (length messages) WaitingMessage
messages_where false messages = []

-- none where the peer doesn't let them
abbrev pub waiting_messages : Outlet → List Source
waiting_messages o = messages_where (messages_on o.peer_fcs) o.messages

-- The answers that wait, the streams' aborts, their requests, the messages that wait, and then the streams in turn: as
-- often as the block may have bytes, which is more than it has room for.
abbrev pub turns : ℕ → List Source
turns most = replicate most StreamTurn

abbrev pub sources : ℕ → Outlet → List Source
sources limit o = waiting_answers o ++ (aborts ++ (requests ++ (waiting_messages o ++ turns limit)))

-- ---- what the block takes

-- A block that is being filled, and what it is filled from.
pub record Filling : Type 0 where
  pub block : Writing
  pub outlet : Outlet
  pub spool : CustomerSpool
  pub full : Bool  -- a candidate had no room: it waits for another block, and so do those behind it

abbrev pub with_candidate : Candidate → Writing → Filling
with_candidate c w = record { block = with_last c.item w; outlet = c.outlet; spool = c.spool; full = false }

abbrev pub added_where : Bool → Candidate → Filling → Filling
added_where true c x = with_candidate c x.block
added_where false c x = record x { full = true }

abbrev pub after_candidate : Option Candidate → Filling → Filling
after_candidate None x = x
after_candidate (Some c) x = added_where (has_room x.block c.item) c x

abbrev pub after_source_where : Bool → (WholeFile → Bool) → Source → Filling → Filling
after_source_where true goes source x = x
after_source_where false goes source x = after_candidate (candidate goes source x.outlet x.spool) x

unfoldable pub after_source : (WholeFile → Bool) → Source → Filling → Filling
after_source goes source x = after_source_where x.full goes source x

-- each in the state that those before it leave
unfoldable pub after_sources : (WholeFile → Bool) → List Source → Filling → Filling
after_sources goes [] x = x
after_sources goes (source ∷ more) x = after_sources goes more (after_source goes source x)

abbrev pub filled_where : Bool → (WholeFile → Bool) → Filling → Filling
filled_where true goes x = x
filled_where false goes x = after_sources goes (sources x.block.limit x.outlet) x

-- The block when it is filled; nothing is added where the peer suspends all.
unfoldable pub filled_block : (WholeFile → Bool) → Filling → Filling
filled_block goes x = filled_where (all_suspended x.outlet.peer_fcs) goes x

-- a block, an outlet and a customer's spool, as long as all had room
abbrev pub filling : Writing → Outlet → CustomerSpool → Filling
filling w o s = record { block = w; outlet = o; spool = s; full = false }
