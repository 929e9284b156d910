-- What a line sends, and what is left of its customer then.
use Rattle.std.specs.Prelude.{ℕ, ◌+◌, Bool, true, false, List, [], ◌∷◌, ◌||◌}
use Rattle.njh_bisync.specs.Written.{text_bytes, control_bytes}
use Rattle.njh_bisync.specs.declared.frame.Control.{Control}
use Rattle.njh_bisync.specs.declared.frame.Control.TheVariants.{Enquiry, Ack0, Nak}
use Rattle.njh_block.specs.Blocks.{Control as ControlItem, all_suspended, same_fcs, text_of}
use Rattle.njh_block.specs.Writing.{Writing, with_last}
use Rattle.njh_line.specs.Lines as line
use Rattle.njh_line.specs.Lines.{LineState, LastSent, after_sending}
use Rattle.njh_line.specs.Openings.{opening}
use Rattle.njh_line.specs.declared.opening.Opening.{Opening}
use Rattle.njh_line.specs.declared.verdict.LineReply.{LineReply}
use Rattle.njh_line.specs.declared.verdict.LineReply.TheVariants as reply
use Rattle.njh_spool.specs.CustomerSpool.{CustomerSpool}
use Rattle.njh_table.specs.Entries.{CustomerEntry}
use Rattle.njh_stream.specs.Sending.{goes_by}
use Rattle.njh_sched.specs.NextBlock.{Filling, Outlet, filled_block, filling}
use Rattle.njh_sched.specs.Tight.{own_fcs}
use Rattle.njh_customer.specs.Customer.{CustomerLine, with_line_state}

-- ---- frames

-- A line once it sent something, and the frame; [] if it sent none.
pub record Sending : Type 0 where
  pub line : LineState
  pub frame : List ℕ

abbrev pub sent_as : LastSent → List ℕ → LineState → Sending
sent_as sent frame x = record { line = after_sending sent x; frame = frame }

-- a frame that may be sent again
abbrev pub sending_of_frame : List ℕ → LineState → Sending
sending_of_frame frame x = sent_as (line.Frame frame) frame x

abbrev pub sending_of_control : Control → LineState → Sending
sending_of_control Enquiry x = sending_of_frame (control_bytes Enquiry) x
sending_of_control Ack0 x = sending_of_frame (control_bytes Ack0) x
sending_of_control Nak x = sent_as line.Nak (control_bytes Nak) x

-- the last transmission goes again
abbrev pub sending_again : LineState → Sending
sending_again x = sent_as line.Again x.last x

-- the I or the J block
abbrev pub sending_of_opening : Opening → LineState → Sending
sending_of_opening kind x = sending_of_frame (text_bytes (opening kind x.config)) x

-- a block of the hub's own count, without records
abbrev pub own_block : ℕ × ℕ → LineState → Writing
own_block fcs x = record { limit = x.session.size; bcb = 0x80 + x.session.next_count; fcs = fcs; items = [] }

-- a block as a frame
abbrev pub block_frame : Writing → List ℕ
block_frame w = text_bytes (text_of w.bcb w.fcs w.items)

abbrev pub sending_of_block : Writing → LineState → Sending
sending_of_block w x = sent_as (line.Block (block_frame w) w.fcs) (block_frame w) x

-- which count the hub expected
abbrev pub sending_of_sequence : ℕ × ℕ → ℕ → LineState → Sending
sending_of_sequence fcs expected x = sending_of_block (with_last (ControlItem 0xe0 expected) (own_block fcs x)) x

-- what is sent in the place of a block: ACK0, or nothing, and then the turn is the hub's
abbrev pub sending_of_no_block : Bool → LineState → Sending
sending_of_no_block true x = sending_of_control Ack0 x
sending_of_no_block false x = sent_as line.Nothing [] x

-- a block without records goes only to tell a new function control sequence, and not if the peer suspends all
abbrev pub sending_of_empty : Bool → Writing → LineState → Sending
sending_of_empty or_ack0 w x =
    elim (all_suspended x.session.peer_fcs || same_fcs w.fcs x.session.own_fcs) [
      | true ↦ sending_of_no_block or_ack0 x
      | false ↦ sending_of_block w x
    ]

-- a block that was written
abbrev pub sending_of_written : Bool → Writing → LineState → Sending
sending_of_written or_ack0 w x = elim w.items [ [] ↦ sending_of_empty or_ack0 w x | i ∷ is ↦ sending_of_block w x ]

-- ---- the next block

-- what a line has to send
abbrev pub outlet_of : CustomerLine → Outlet
outlet_of x = record {
  streams = x.streams;
  peer_fcs = x.state.session.peer_fcs;
  answers = x.state.answers;
  messages = x.state.messages;
  senders = x.senders;
  served = x.served;
}

-- the line once some of it was sent
abbrev pub with_outlet : Outlet → CustomerLine → CustomerLine
with_outlet o x =
    record x {
      state = record x.state { answers = o.answers; messages = o.messages };
      senders = o.senders;
      served = o.served;
    }

-- what is left of a line without what it has to send
abbrev pub without_queues : CustomerLine → CustomerLine
without_queues x =
    with_outlet (record { streams = 0; peer_fcs = (0, 0); answers = []; messages = []; senders = []; served = 0 }) x

-- the next block of a line, under its customer's function control sequence
abbrev pub next_block : CustomerEntry → ℕ → CustomerSpool → CustomerLine → Filling
next_block entry l s x = filled_block (goes_by entry l) (filling (own_block (own_fcs s) x.state) (outlet_of x) s)

-- ---- what a verdict asks for

-- A line and its customer's files once the line sent something, and the frame; [] if it sent none.
pub record LineSent : Type 0 where
  pub line : CustomerLine
  pub spool : CustomerSpool
  pub frame : List ℕ

abbrev pub sending_of_line : (LineState → Sending) → CustomerSpool → CustomerLine → LineSent
sending_of_line f s x =
    let sent = f x.state in record { line = with_line_state sent.line x; spool = s; frame = sent.frame }

abbrev pub sending_of_next : CustomerEntry → ℕ → Bool → CustomerSpool → CustomerLine → LineSent
sending_of_next entry l or_ack0 s x =
    let f = next_block entry l s x in
    sending_of_line (sending_of_written or_ack0 f.block) f.spool (with_outlet f.outlet x)

abbrev pub sending_of_reply : CustomerEntry → ℕ → LineReply → CustomerSpool → CustomerLine → LineSent
sending_of_reply entry l reply.Nothing s x = record { line = x; spool = s; frame = [] }
sending_of_reply entry l (reply.Control control) s x = sending_of_line (sending_of_control control) s x
sending_of_reply entry l reply.Again s x = sending_of_line sending_again s x
sending_of_reply entry l (reply.SignOn kind) s x = sending_of_line (sending_of_opening kind) s x
sending_of_reply entry l (reply.Sequence expected) s x = sending_of_line (sending_of_sequence (own_fcs s) expected) s x
sending_of_reply entry l (reply.Next or_ack0) s x = sending_of_next entry l or_ack0 s x
