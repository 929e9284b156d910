-- What is said of all runs of a customer by itself, over the definitions alone.
use Rattle.std.specs.Prelude.{◌≡◌, ℕ, ◌<◌, true, List, [], ◌∷◌, ◌++◌, length, take, cond}
use Rattle.njh_bisync.specs.Written.{control_bytes}
use Rattle.njh_bisync.specs.declared.frame.Control.TheVariants.{Ack0}
use Rattle.njh_line.specs.declared.Phase.TheVariants.{Up}
use Rattle.njh_table.specs.NewRoutes.{NewRoute, routes_checked}
use Rattle.njh_customer.specs.Feeding.{sent_on}
use Rattle.njh_table.specs.Entries.{CustomerEntry}
use Rattle.njh_customer.specs.declared.signal.Signal.TheVariants.{Tick}
use Rattle.njh_customer.specs.Customer.{IsMarked, fresh_customer, line_at, with_marks}
use Rattle.njh_customer.specs.NewRoutes.{entry_with}
use Rattle.njh_customer.specs.Part.{Part, part_after_bytes, part_after_signal}
use Rattle.njh_customer.specs.Having.{has_next}
use Rattle.njh_customer.specs.Sending.{block_frame, next_block}
use Rattle.njh_customer.specs.Runs.{OwnEvent, OwnBytes, Run, event_run, alone_run}

-- A piece that comes in two gives the same frames and the same part.
abbrev pub CutsAreLike : Type 0
CutsAreLike =
    (p : Part) (l : ℕ) (front back : List ℕ) (events : List OwnEvent) → l < length p.rests →
    alone_run p (OwnBytes l (front ++ back) ∷ events) ≡ alone_run p (OwnBytes l front ∷ OwnBytes l back ∷ events)

abbrev pub NoBytesDoNothing : Type 0
NoBytesDoNothing = (p : Part) (l : ℕ) → event_run p (OwnBytes l []) ≡ record { after = p; sent = [] }

-- a step by bytes that come after others: the part is the step's, and its frame comes last
abbrev pub followed_by : Run → ℕ → List ℕ → Run
followed_by r l left =
    let t = part_after_bytes r.after l left in record { after = t.after; sent = r.sent ++ sent_on l t.frame }

-- Bytes, and then a step by what is left, are those bytes and the step's.
abbrev pub StepsFollowBytes : Type 0
StepsFollowBytes =
    (p : Part) (l : ℕ) (front left : List ℕ) → l < length (event_run p (OwnBytes l front)).after.rests →
    event_run p (OwnBytes l (front ++ take (part_after_bytes (event_run p (OwnBytes l front)).after l left).taken left))
    ≡ followed_by (event_run p (OwnBytes l front)) l left

-- The frames that the first bytes of a piece send come first of those that the piece sends.
abbrev pub FirstBytesSendFirst : Type 0
FirstBytesSendFirst =
    (p : Part) (l : ℕ) (front back : List ℕ) →
    (more : List (ℕ × List ℕ))
    × ((event_run p (OwnBytes l front)).sent ++ more ≡ (event_run p (OwnBytes l (front ++ back))).sent)

-- ---- what no event changes

-- Of a customer's entry an event changes the routes and the marks of its lines alone.
abbrev pub EventsKeepEntries : Type 0
EventsKeepEntries =
    (p : Part) (event : OwnEvent) → let after = (event_run p event).after.customer.entry in
    after ≡ entry_with after.routes (with_marks after.up p.customer.entry)

-- A step by bytes changes the marks alone.
abbrev pub TakesKeepEntries : Type 0
TakesKeepEntries =
    (p : Part) (l : ℕ) (piece : List ℕ) → let after = (part_after_bytes p l piece).after.customer.entry in
    after ≡ with_marks after.up p.customer.entry

-- So routes have the same first fault, or none, before an event and after it.
abbrev pub EventsKeepFaults : Type 0
EventsKeepFaults =
    (p : Part) (event : OwnEvent) (routes : List NewRoute) →
    routes_checked (event_run p event).after.customer.entry routes ≡ routes_checked p.customer.entry routes

-- The customer has as many lines.
abbrev pub EventsKeepLines : Type 0
EventsKeepLines =
    (p : Part) (event : OwnEvent) → length (event_run p event).after.customer.lines ≡ length p.customer.lines

-- ---- the marks of the lines

-- The lines that are marked as up are those that are up: so when the hub is opened, after each event, and after each
-- step by bytes.
pub record MarksAreRight : Type 0 where
  pub fresh : (entry : CustomerEntry) → IsMarked (fresh_customer entry)
  pub events : (p : Part) (event : OwnEvent) → IsMarked p.customer → IsMarked (event_run p event).after.customer
  pub takes : (p : Part) (l : ℕ) (piece : List ℕ) → IsMarked p.customer
      → IsMarked (part_after_bytes p l piece).after.customer

-- ---- a line that has the turn

-- A tick on a line whose session is up and has the turn sends its next block, where that would be sent, else ACK0.
abbrev pub TicksSendNext : Type 0
TicksSendNext =
    (p : Part) (l : ℕ) → l < length p.customer.lines →
    (line_at l p.customer.lines).state.session.phase ≡ Up →
    (line_at l p.customer.lines).state.session.has_turn ≡ true →
    (part_after_signal p l Tick).frame
    ≡ cond (has_next p.customer.entry l p.customer.spool (line_at l p.customer.lines))
    (block_frame (next_block p.customer.entry l p.customer.spool (line_at l p.customer.lines)).block)
    (control_bytes Ack0)
