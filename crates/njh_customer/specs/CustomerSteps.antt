-- What the code's steps lead a customer to.
use Rattle.std.specs.Prelude.{◌≡◌, ℕ, ◌<◌, List, Option, length, slice_set}
use Rattle.njh_line.specs.declared.ending.SessionEnd.{SessionEnd}
use Rattle.njh_table.specs.declared.LineId.{LineId}
use Rattle.njh_spool.specs.Spools.{spool_at}
use Rattle.njh_table.specs.TableFile.{TableFile, NamedCustomer, HasLine, customer_at, entry_of}
use Rattle.njh_customer.specs.declared.shared.Shared.{Shared}
use Rattle.njh_customer.specs.Customer.{Customer, CustomerLine, customer_with}
use Rattle.njh_customer.specs.Acting.{Acted}
use Rattle.njh_customer.specs.Alone.{CustomerStep}
use Rattle.njh_customer.specs.Sending.{LineSent}
use Rattle.njh_customer.specs.Part.{Part, Lines, part_with}
use Rattle.njh_customer.specs.code.Coherence.{IsCoherent}

-- the customer of a number, by what all share and its own lines
abbrev pub customer_of : ℕ → Shared → List CustomerLine → Customer
customer_of c shared lines = customer_with (entry_of (customer_at shared.tables c)) (spool_at c shared.spool) lines

-- its part of a hub
abbrev pub part_of : ℕ → Shared → Lines → Part
part_of c shared lines = part_with (entry_of (customer_at shared.tables c)) (spool_at c shared.spool) lines

-- the tables with another customer in the place of a number
abbrev pub with_customer : ℕ → NamedCustomer → TableFile → TableFile
with_customer c customer tables = record tables { customers = slice_set tables.customers c customer }

-- Of the tables nothing is changed but what they say of one customer.
abbrev pub KeepsOtherEntries : ℕ → TableFile → TableFile → Type 0
KeepsOtherEntries c old new = new ≡ with_customer c (customer_at new c) old

-- ---- a line that takes a step

-- A line of a customer that is there.
pub record IsThere (id : LineId) (shared : Shared) (lines : List CustomerLine) : Type 0 where
  pub known : id.customer < length shared.tables.customers
  pub line : HasLine shared.tables id
  pub spooled : id.customer < length shared.spool
  pub there : id.number < length lines

-- A line of a customer that is there, and whose customer is coherent.
pub record IsReady (id : LineId) (shared : Shared) (lines : List CustomerLine) : Type 0 where
  pub known : id.customer < length shared.tables.customers
  pub spooled : id.customer < length shared.spool
  pub there : id.number < length lines
  pub coherent : IsCoherent (customer_of id.customer shared lines)

-- ---- what a step changes

-- The customer is what it is after. Of what all share its files alone may have changed: the others' stay, and so do the
-- tables.
pub record ChangesFiles (c : ℕ) (old new : Shared) (lines : List CustomerLine) (after : Customer) : Type 0 where
  pub customer : customer_of c new lines ≡ after
  pub others : new.spool ≡ slice_set old.spool c (spool_at c new.spool)
  pub tables : new.tables ≡ old.tables

-- It is what it is after, and its marks may have changed too: the others' entries and files stay.
pub record ChangesMarks (c : ℕ) (old new : Shared) (lines : List CustomerLine) (after : Customer) : Type 0 where
  pub customer : customer_of c new lines ≡ after
  pub others : new.spool ≡ slice_set old.spool c (spool_at c new.spool)
  pub entries : KeepsOtherEntries c old.tables new.tables

-- One of its lines sends something.
pub record LineSends (c : ℕ) (old new : Shared) (line : CustomerLine) (out : List ℕ) (sent : LineSent) : Type 0 where
  pub line_is : line ≡ sent.line
  pub spool : new.spool ≡ slice_set old.spool c sent.spool
  pub frame : out ≡ sent.frame
  pub tables : new.tables ≡ old.tables

-- Records acted, of which one made this end of the session, if one did: they change files, and the line is ready for
-- more.
pub record RecordsAct (id : LineId) (old new : Shared) (lines : List CustomerLine) (end : Option SessionEnd)
    (acted : Acted) : Type 0 where
  pub end_is : end ≡ acted.end
  pub after : ChangesFiles id.customer old new lines acted.customer
  pub ready : IsReady id new lines

-- A step changes files and marks, and its frame is sent.
pub record StepSends (c : ℕ) (old new : Shared) (lines : List CustomerLine) (out : List ℕ) (step : CustomerStep)
    : Type 0 where
  pub after : ChangesMarks c old new lines step.after
  pub frame : out ≡ step.frame

-- And it leaves the line ready for more, among as many lines.
pub record LeavesReady (id : LineId) (old : Shared) (before : List CustomerLine) (new : Shared)
    (lines : List CustomerLine) (out : List ℕ) (step : CustomerStep) : Type 0 where
  pub after : ChangesMarks id.customer old new lines step.after
  pub frame : out ≡ step.frame
  pub ready : IsReady id new lines
  pub count : length lines ≡ length before

-- So does a step of the customer's part of a hub.
pub record PartLeavesReady (id : LineId) (old : Shared) (before : Lines) (new : Shared) (lines : Lines) (out : List ℕ)
    (after : Part) (sent : List ℕ) : Type 0 where
  pub part : part_of id.customer new lines ≡ after
  pub others : new.spool ≡ slice_set old.spool id.customer (spool_at id.customer new.spool)
  pub entries : KeepsOtherEntries id.customer old.tables new.tables
  pub frame : out ≡ sent
  pub ready : IsReady id new lines.lines
  pub count : length lines.lines ≡ length before.lines

-- ---- the same by a step that the definitions give: from these lines of what was shared to those of what is

-- what one record does, and the end of a session before its mark is taken away
abbrev pub ChangesFilesBy : LineId → Shared → List CustomerLine → Shared → List CustomerLine → (Customer → Customer)
    → Type 0
ChangesFilesBy id old before new lines step =
    ChangesFiles id.customer old new lines (step (customer_of id.customer old before))

-- what records do
abbrev pub RecordsActBy : LineId → Shared → List CustomerLine → Shared → List CustomerLine → Option SessionEnd
    → (Customer → Acted) → Type 0
RecordsActBy id old before new lines end step =
    RecordsAct id old new lines end (step (customer_of id.customer old before))

-- what may mark a line
abbrev pub ChangesMarksBy : LineId → Shared → List CustomerLine → Shared → List CustomerLine → (Customer → Customer)
    → Type 0
ChangesMarksBy id old before new lines step =
    ChangesMarks id.customer old new lines (step (customer_of id.customer old before))

-- what sends a frame
abbrev pub StepSendsBy : LineId → Shared → List CustomerLine → Shared → List CustomerLine → List ℕ
    → (Customer → CustomerStep) → Type 0
StepSendsBy id old before new lines out step =
    StepSends id.customer old new lines out (step (customer_of id.customer old before))

-- a whole step
abbrev pub LeavesReadyBy : LineId → Shared → List CustomerLine → Shared → List CustomerLine → List ℕ
    → (Customer → CustomerStep) → Type 0
LeavesReadyBy id old before new lines out step =
    LeavesReady id old before new lines out (step (customer_of id.customer old before))
