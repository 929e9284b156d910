-- What is so of a customer's files and lines at each moment, and what it has when the session of each line is lost.
use Rattle.std.specs.Prelude.{◌≡◌, ℕ, zero, suc, ◌+◌, ◌<◌, ◌≤◌, true, false, List, [], ◌∷◌, All, length, map, Some}
use Rattle.std.specs.List.{Contains}
use Rattle.njh_header.specs.WholeFiles.{HasHeaders}
use Rattle.njh_spool.specs.CustomerSpool.{CustomerSpool, WholeFile, is_number, used_blocks, with_arrived}
use Rattle.njh_spool.specs.Spools.{files_numbered}
use Rattle.njh_spool.specs.declared.State.{State}
use Rattle.njh_spool.specs.declared.State.TheVariants.{Ready, Held, Refused, Sending}
use Rattle.njh_stream.specs.declared.receiver.Receiver.TheVariants as receiver
use Rattle.njh_stream.specs.declared.sender.Sender.TheVariants as sender
use Rattle.njh_stream.specs.Sending.{file_in}
use Rattle.njh_line.specs.Laws.{is_up}
use Rattle.njh_line.specs.declared.config.Config.{Config}
use Rattle.njh_line.specs.declared.Phase.{Phase}
use Rattle.njh_line.specs.declared.Phase.TheVariants.{Down}
use Rattle.njh_bisync.specs.Reading.{Nothing}
use Rattle.njh_table.specs.Entries.{CustomerEntry, RouteEntry}
use Rattle.njh_customer.specs.declared.signal.Signal.TheVariants.{Lost}
use Rattle.njh_customer.specs.Customer.{Customer, CustomerLine, config_of, fresh_customer, line_at, receiver_at}
use Rattle.njh_customer.specs.Customer.{sender_at}
use Rattle.njh_customer.specs.NewRoutes.{customer_with_routes}
use Rattle.njh_customer.specs.OutgoingFiles.{Outgoing, outgoing, has_file, sender_on, streams_of}
use Rattle.njh_customer.specs.Part.{Part, rest_on}
use Rattle.njh_customer.specs.Runs.{OwnEvent, OwnSignal, alone_run, event_run}
use Rattle.njh_customer.specs.code.Coherence.{IsCoherent}

-- ---- which files are being sent

-- stream k of line l is about the file of a number
abbrev pub IsAbout : ℕ → ℕ → ℕ → Outgoing → Type 0
IsAbout l k n x = file_in (sender_on l k x) ≡ Some n

-- the file of a number goes on one of the streams
pub record IsOnStream (n : ℕ) (x : Outgoing) : Type 0 where
  pub line : ℕ
  pub stream : ℕ
  pub about : IsAbout line stream n x

-- Each line has eight streams from the hub. The file that one is about is there, and is being sent; no two are about
-- the same file; and no file is being sent but those.
pub record AreBeingSent (x : Outgoing) : Type 0 where
  pub eight : (l : ℕ) → l < length x.streams → length (streams_of l x) ≡ 8
  pub there : (l k n : ℕ) → IsAbout l k n x → has_file n x ≡ true
  pub sending : (l k n : ℕ) (f : WholeFile) → IsAbout l k n x → Contains x.files f → f.number ≡ n → f.state ≡ Sending
  pub apart : (l k m j n : ℕ) → IsAbout l k n x → IsAbout m j n x → (l ≡ m) × (k ≡ j)
  pub go : (f : WholeFile) → Contains x.files f → f.state ≡ Sending → IsOnStream f.number x

-- no two files have one number
abbrev pub AreApart : CustomerSpool → Type 0
AreApart s = (n : ℕ) → files_numbered n s ≤ 1

-- its files take no more blocks than its quota, and are no more than its limit
pub record IsWithinQuota (s : CustomerSpool) : Type 0 where
  pub blocks : used_blocks s ≤ s.quota
  pub files : length s.whole + length s.partial ≤ s.limit

-- ---- lines that aren't up

-- No stream is about a file, no answer waits, and SYSOUT 4 counts as served last.
pub record IsIdle (x : CustomerLine) : Type 0 where
  pub receivers : (k : ℕ) → receiver_at k x ≡ receiver.Idle
  pub senders : (k : ℕ) → sender_at k x ≡ sender.Idle
  pub answers : x.state.answers ≡ []
  pub served : x.served ≡ 7

abbrev pub phase_of : CustomerLine → Phase
phase_of x = x.state.session.phase

abbrev pub IdleUnlessUp : List CustomerLine → Type 0
IdleUnlessUp lines =
    (l : ℕ) → l < length lines → is_up (phase_of (line_at l lines)) ≡ false → IsIdle (line_at l lines)

-- ---- all of it

-- how each line is set up is what the customer's entry says
abbrev pub AreSetUp : Customer → Type 0
AreSetUp c =
    map {B = Config × ℕ} (λ x. (x.state.config, x.streams)) c.lines
    ≡ map {B = Config × ℕ} (λ line. (config_of c.entry line, line.streams)) c.entry.lines

-- a whole file more, the last one
abbrev pub customer_with_last_file : WholeFile → Customer → Customer
customer_with_last_file f c = record c { spool = with_arrived f c.spool }

-- The customer's streams, files and lines agree with each other.
pub record IsInOrder (c : Customer) : Type 0 where
  pub coherent : IsCoherent c
  pub apart : AreApart c.spool
  pub within : IsWithinQuota c.spool
  pub sent : AreBeingSent (outgoing c)
  pub idle : IdleUnlessUp c.lines
  pub set_up : AreSetUp c

-- So it is when it is opened, and stays so: whatever comes, by routes that are given, and if a whole file is put
-- back.
pub record StaysInOrder : Type 0 where
  pub opened : (entry : CustomerEntry) → All (λ line. line.streams ≤ 4) entry.lines → IsInOrder (fresh_customer entry)
  pub events : (p : Part) (event : OwnEvent) → IsInOrder p.customer → IsInOrder (event_run p event).after.customer
  pub routes : (routes : List RouteEntry) (c : Customer) → IsInOrder c → IsInOrder (customer_with_routes routes c)
  pub put_back : (f : WholeFile) (c : Customer) → is_number f.number c.spool ≡ false → HasHeaders f.kind f.records
      → (f.state ≡ Sending → ⊥) → IsWithinQuota (with_arrived f c.spool) → IsInOrder c
      → IsInOrder (customer_with_last_file f c)

-- ---- the loss of all lines

-- the sessions of so many lines are lost, one after the other, the last line first
abbrev pub losses : ℕ → List OwnEvent
losses zero = []
losses (suc l) = OwnSignal Lost l ∷ losses l

abbrev pub after_losses : Part → Part
after_losses p = (alone_run p (losses (length p.customer.lines))).after

-- Held if it is Held, and else Ready
abbrev pub state_at_rest : State → State
state_at_rest Ready = Ready
state_at_rest Held = Held
state_at_rest Refused = Ready
state_at_rest Sending = Ready

abbrev pub at_rest : WholeFile → WholeFile
at_rest f = record f { state = state_at_rest f.state }

-- What a customer has then: all its whole files, in their order, Held if they were, and none is being sent; no other
-- file; and no line is up, no stream is about a file, no answer waits, and nothing has come of a frame.
pub record HasAfterLosses (before after : Part) : Type 0 where
  pub files : map at_rest after.customer.spool.whole ≡ map at_rest before.customer.spool.whole
  pub none_sent : (f : WholeFile) → Contains after.customer.spool.whole f → f.state ≡ Sending → ⊥
  pub partial : after.customer.spool.partial ≡ []
  pub lines : length after.customer.lines ≡ length before.customer.lines
  pub down : (l : ℕ) → l < length after.customer.lines → phase_of (line_at l after.customer.lines) ≡ Down
  pub idle : (l : ℕ) → l < length after.customer.lines → IsIdle (line_at l after.customer.lines)
  pub rests : (l : ℕ) → l < length before.rests → l < length before.customer.lines → rest_on l after ≡ Nothing

abbrev pub LossesLeaveFiles : Type 0
LossesLeaveFiles = (p : Part) → IsInOrder p.customer → HasAfterLosses p (after_losses p)
