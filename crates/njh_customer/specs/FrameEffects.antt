-- What a frame or a signal on a line does to a customer's whole files and to its streams from the hub: first its
-- records act, one after the other, then a frame goes out or none, and then the line's session goes on or ends.
use Rattle.std.specs.Prelude.{◌≡◌, ℕ, ◌+◌, ◌<◌, Bool, false, List, [], ◌∷◌, ◌++◌, length, take, drop, map, Result, Ok}
use Rattle.std.specs.Prelude.{Err}
use Rattle.njh_bisync.specs.Frames as frame
use Rattle.njh_bisync.specs.Frames.{Received}
use Rattle.njh_bisync.specs.Written.{control_bytes, text_bytes}
use Rattle.njh_bisync.specs.declared.frame.Control as frame_control
use Rattle.njh_block.specs.Blocks.{Block, Item, Control, rcb_of, read_block, text_of}
use Rattle.njh_block.specs.declared.fault.BlockFault.{BlockFault}
use Rattle.njh_stream.specs.declared.sender.Sender.TheVariants.{Sending, EofSent}
use Rattle.njh_sched.specs.NextBlock.{sends_file}
use Rattle.njh_sched.specs.Laws.{records_under}
use Rattle.njh_sched.specs.Carrying.{end_of_file, record_item}
use Rattle.njh_table.specs.Entries.{CustomerEntry}
use Rattle.njh_table.specs.Marks.{entry_marked}
use Rattle.njh_line.specs.Lines.{LineState}
use Rattle.njh_line.specs.Openings.{opening}
use Rattle.njh_line.specs.declared.opening.Opening.{Opening}
use Rattle.njh_customer.specs.Customer.{Customer, line_at}
use Rattle.njh_customer.specs.Alone.{CustomerStep, with_raised_line}
use Rattle.njh_customer.specs.OutgoingFiles.{Outgoing, outgoing, records_numbered, sender_on, streams_of}
use Rattle.njh_customer.specs.Moves.{LeadsByMoves, OneActs, Over, Sends}

-- the records of a frame; none if it is no text, or its text is no block
abbrev pub block_records : Result Block BlockFault → List Item
block_records (Ok b) = b.items
block_records (Err e) = []

abbrev pub records_of_frame : Received → List Item
records_of_frame frame.Enquiry = []
records_of_frame frame.Ack0 = []
records_of_frame frame.Nak = []
records_of_frame frame.Eot = []
records_of_frame (frame.Text text) = block_records (read_block text)
records_of_frame frame.Spoiled = []

-- What a block of these records carries of the file of stream k of line l: of a stream that sends none, nothing. Of one
-- that sends a file under its RCB the file's records from the stream's place before the block to its place after it,
-- each once and in order; and the end of file only after the last record, and then the stream has sent its end of
-- file.
pub data Carries (l k : ℕ) (items : List Item) (x y : Outgoing) : Type 0 where
  nothing : sends_file (sender_on l k x) ≡ false → records_under (rcb_of k) items ≡ [] → Carries l k items x y
  on_its_way :
      (n place more : ℕ) → sender_on l k x ≡ Sending n place
      → length (take more (drop place (records_numbered n x))) ≡ more
      → sender_on l k y ≡ Sending n (place + more)
      → records_under (rcb_of k) items ≡ map (record_item k) (take more (drop place (records_numbered n x)))
      → Carries l k items x y
  to_its_end :
      (n place : ℕ) → sender_on l k x ≡ Sending n place → sender_on l k y ≡ EofSent n
      → records_under (rcb_of k) items ≡ map (record_item k) (drop place (records_numbered n x)) ++ end_of_file k ∷ []
      → Carries l k items x y

-- What a line sends that is no new block: nothing, a control frame, the last transmission again, a sign-on, the count
-- that was expected, or a block without records.
pub data IsNoNewBlock (line : LineState) (sent : List ℕ) : Type 0 where
  nothing_sent : sent ≡ [] → IsNoNewBlock line sent
  control : (which : frame_control.Control) → sent ≡ control_bytes which → IsNoNewBlock line sent
  again : sent ≡ line.last → IsNoNewBlock line sent
  sign_on : (kind : Opening) → sent ≡ text_bytes (opening kind line.config) → IsNoNewBlock line sent
  count : (bcb : ℕ) (fcs : ℕ × ℕ) (expected : ℕ) → sent ≡ text_bytes (text_of bcb fcs (Control 0xe0 expected ∷ []))
      → IsNoNewBlock line sent
  without_records : (bcb : ℕ) (fcs : ℕ × ℕ) → sent ≡ text_bytes (text_of bcb fcs []) → IsNoNewBlock line sent

-- What goes out on a line that stood so: what is no new block, and moves nothing; or a new block, by whose records the
-- line's streams move, each as far as the block carries its file.
pub data GoesOut (entry : CustomerEntry) (l : ℕ) (line : LineState) (x y : Outgoing) (sent : List ℕ) : Type 0 where
  no_block : y ≡ x → IsNoNewBlock line sent → GoesOut entry l line x y sent
  new_block :
      (bcb : ℕ) (fcs : ℕ × ℕ) (items : List Item) → sent ≡ text_bytes (text_of bcb fcs items)
      → LeadsByMoves (Sends entry l) x y
      → ((k : ℕ) → k < 8 → k < length (streams_of l x) → Carries l k items x y) → GoesOut entry l line x y sent

-- How a step ends that was judged by an entry: the line's session goes on, or it is over, and then the line counts as
-- not up. Of the entry nothing else is changed.
pub data Ends (entry : CustomerEntry) (l : ℕ) (x : Outgoing) (after : Customer) : Type 0 where
  still_on : outgoing after ≡ x → after.entry ≡ entry → Ends entry l x after
  over_now : Over l x (outgoing after) → after.entry ≡ entry_marked l false entry → Ends entry l x after

-- What a step on line l does by these records: if the line goes up by what came it counts as up from then on. The
-- records act, or none does; then what goes out, of the line as it was; and at last the line's session goes on or ends.
pub record Does (l : ℕ) (items : List Item) (c : Customer) (s : CustomerStep) : Type 0 where
  pub up : Bool  -- whether the line goes up
  pub acted : Outgoing
  pub records : LeadsByMoves (OneActs (with_raised_line up l c.entry) l items) (outgoing c) acted
  pub answered : Outgoing
  pub answer : GoesOut (with_raised_line up l c.entry) l (line_at l c.lines).state acted answered s.frame
  pub end : Ends (with_raised_line up l c.entry) l answered s.after
  pub lines : length s.after.lines ≡ length c.lines
