-- A customer alone: what each frame and each signal on one of its lines does and sends.
use Rattle.std.specs.Prelude.{ℕ, Bool, true, false, ◌&&◌, not, List, [], length, replicate, slice_set, Option, Some}
use Rattle.std.specs.Prelude.{None, Result, Ok, Err, nat_lt, cond}
use Rattle.njh_bisync.specs.Frames as frame
use Rattle.njh_bisync.specs.Frames.{Received}
use Rattle.njh_block.specs.Blocks.{Block, read_block, general_first}
use Rattle.njh_block.specs.declared.fault.BlockFault.{BlockFault}
use Rattle.njh_spool.specs.CustomerSpool.{CustomerSpool}
use Rattle.njh_table.specs.Entries.{CustomerEntry}
use Rattle.njh_table.specs.Marks.{entry_marked}
use Rattle.njh_stream.specs.declared.receiver.Receiver.TheVariants as receiver
use Rattle.njh_stream.specs.declared.sender.Sender.TheVariants as sender
use Rattle.njh_stream.specs.Receiving.{without_all_open}
use Rattle.njh_stream.specs.Sending.{all_ended, tried_again}
use Rattle.njh_line.specs.LineTable as input
use Rattle.njh_line.specs.LineTable.{Input, table_outcome}
use Rattle.njh_line.specs.Laws.{is_up}
use Rattle.njh_line.specs.Lines.{after_input, after_end, without_answers}
use Rattle.njh_line.specs.declared.Phase.{Phase}
use Rattle.njh_line.specs.declared.ending.SessionEnd.{SessionEnd}
use Rattle.njh_line.specs.declared.verdict.LineReply.{LineReply}
use Rattle.njh_line.specs.declared.verdict.Verdict.{Verdict}
use Rattle.njh_customer.specs.declared.signal.Signal.{Signal}
use Rattle.njh_customer.specs.declared.signal.Signal.TheVariants as signal
use Rattle.njh_customer.specs.Customer.{Customer, CustomerLine, line_at, on_line, in_state}
use Rattle.njh_customer.specs.Acting.{acted_where}
use Rattle.njh_customer.specs.Sending.{LineSent, sending_of_reply}

-- The customer after a step, and the frame that it sent; [] if it sent none.
pub record CustomerStep : Type 0 where
  pub after : Customer
  pub frame : List ℕ

abbrev pub silent : Customer → CustomerStep
silent c = record { after = c; frame = [] }

-- a line sends what a verdict asks for
abbrev pub after_reply : ℕ → LineSent → Customer → CustomerStep
after_reply l sent c =
    record { after = record c { spool = sent.spool; lines = slice_set c.lines l sent.line }; frame = sent.frame }

abbrev pub replied_to : ℕ → LineReply → Customer → CustomerStep
replied_to l reply c = after_reply l (sending_of_reply c.entry l reply c.spool (line_at l c.lines)) c

-- ---- the end of a line's session

-- its answers are gone, its streams are about nothing, and SYSOUT 4 counts as served last
abbrev pub with_idle_streams : CustomerLine → CustomerLine
with_idle_streams x = record x {
  state = without_answers x.state;
  receivers = replicate (length x.receivers) receiver.Idle;
  senders = replicate (length x.senders) sender.Idle;
  served = 7;
}

-- The files that it was sending may go again, and so may those that were refused and go by it; the files that came in
-- on it are gone.
abbrev pub spool_over : CustomerEntry → ℕ → CustomerLine → CustomerSpool → CustomerSpool
spool_over entry l x s = without_all_open x.receivers (tried_again entry l (all_ended x.senders s))

-- they are judged by the marks as these were just before
abbrev pub session_closed : ℕ → Customer → Customer
session_closed l c =
    record c { spool = spool_over c.entry l (line_at l c.lines) c.spool; lines = on_line l with_idle_streams c.lines }

-- and then the line counts as not up
abbrev pub session_over : ℕ → Customer → Customer
session_over l c = let d = session_closed l c in record d { entry = entry_marked l false d.entry }

abbrev pub session_over_where : Bool → ℕ → Customer → Customer
session_over_where true l c = session_over l c
session_over_where false l c = c

-- a record ended the session so
abbrev pub session_ended : SessionEnd → ℕ → Customer → Customer
session_ended end l c = session_over l (record c { lines = on_line l (in_state (after_end end)) c.lines })

-- ---- what comes on a line

-- what a verdict asks for is sent, and then the session ends if it says so
abbrev pub carried_out : ℕ → Verdict → Customer → CustomerStep
carried_out l v c =
    let s = replied_to l v.reply c in record { after = session_over_where v.ended l s.after; frame = s.frame }

-- the line table's verdict on what comes
abbrev pub verdict_on : ℕ → Input → Customer → Verdict
verdict_on l came c = let x = (line_at l c.lines).state in (table_outcome x.config came x.session).verdict

-- a line goes up
abbrev pub goes_up : (before after : Phase) → Bool
goes_up before after = is_up after && not (is_up before)

-- a line that goes up is marked; no mark is taken away
abbrev pub with_raised_line : Bool → ℕ → CustomerEntry → CustomerEntry
with_raised_line true l entry = entry_marked l true entry
with_raised_line false l entry = entry

-- whether what comes makes a line go up
abbrev pub goes_up_by : ℕ → Input → Customer → Bool
goes_up_by l came c = let x = (line_at l c.lines).state in goes_up x.session.phase (after_input came x).session.phase

-- the line table judges what comes, and a line that goes up counts as up from then on
abbrev pub accepted_on : ℕ → Input → Customer → Customer
accepted_on l came c = record c {
  entry = with_raised_line (goes_up_by l came c) l c.entry;
  lines = on_line l (in_state (after_input came)) c.lines;
}

-- what comes to a line but a good block
abbrev pub after_line_input : ℕ → Input → Customer → CustomerStep
after_line_input l came c = carried_out l (verdict_on l came c) (accepted_on l came c)

abbrev pub block_input : Block → Input
block_input b = input.Block b.bcb b.fcs (general_first b.items)

-- after the records of a block, by the end that one of them made of the session, if one did
abbrev pub after_records : Option SessionEnd → ℕ → Verdict → Customer → CustomerStep
after_records (Some end) l v c = silent (session_ended end l c)
after_records None l v c = carried_out l v c

-- a good block: its records act if the line table says so, and then it is answered
abbrev pub after_block : ℕ → Block → Customer → CustomerStep
after_block l b c =
    let v = verdict_on l (block_input b) c in
    let a = acted_where v.acts l b.items (accepted_on l (block_input b) c) in
    after_records a.end l v a.customer

abbrev pub text_read : ℕ → Result Block BlockFault → Customer → CustomerStep
text_read l (Ok b) c = after_block l b c
text_read l (Err e) c = after_line_input l input.Bad c

abbrev pub after_text : ℕ → List ℕ → Customer → CustomerStep
after_text l text c = text_read l (read_block text) c

abbrev pub after_received : ℕ → Received → Customer → CustomerStep
after_received l frame.Enquiry c = after_line_input l input.Enquiry c
after_received l frame.Ack0 c = after_line_input l input.Ack0 c
after_received l frame.Nak c = after_line_input l input.Nak c
after_received l frame.Eot c = after_line_input l input.Eot c
after_received l (frame.Text text) c = after_text l text c
after_received l frame.Spoiled c = after_line_input l input.Spoiled c

abbrev pub signal_input : Signal → Input
signal_input signal.Tick = input.Tick
signal_input signal.Garbled = input.Garbled
signal_input signal.Lost = input.Lost

-- a line that isn't there takes nothing and sends nothing
abbrev pub where_there : ℕ → CustomerStep → Customer → CustomerStep
where_there l s c = cond (nat_lt l (length c.lines)) s (silent c)

-- a frame comes on a line
unfoldable pub after_frame : ℕ → Received → Customer → CustomerStep
after_frame l received c = where_there l (after_received l received c) c

-- a signal comes on a line
unfoldable pub after_signal : ℕ → Signal → Customer → CustomerStep
after_signal l s c = where_there l (after_line_input l (signal_input s) c) c
