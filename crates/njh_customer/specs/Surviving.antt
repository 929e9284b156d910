-- Which of a customer's whole files are still there after moves, and which have come since.
use Rattle.std.specs.Prelude.{◌≡◌, ℕ, ◌+◌, ◌-◌, ◌<◌, ◌≤◌, ◌==◌, true, List, [], ◌∷◌, ◌++◌, count_by, find, length, take}
use Rattle.std.specs.Prelude.{None, IsSomeAnd}
use Rattle.std.specs.List.{Contains}
use Rattle.njh_ebcdic.specs.Names.{is_name}
use Rattle.njh_header.specs.Redirecting.{records_to_node}
use Rattle.njh_record.specs.Stored.{Stored}
use Rattle.njh_record.specs.declared.Kind.{Kind}
use Rattle.njh_spool.specs.CustomerSpool.{WholeFile, max_arrived}
use Rattle.njh_table.specs.Entries.{CustomerEntry}
use Rattle.njh_customer.specs.Part.{Part, part_after_bytes}
use Rattle.njh_customer.specs.Runs.{OwnEvent, alone_run, event_run}
use Rattle.njh_customer.specs.OutgoingFiles.{Outgoing, outgoing}
use Rattle.njh_customer.specs.Moves.{Coming, LeadsByMoves, MovesBy}

-- What commands REROUTE leave of the records of a file of a kind: these very records, or these with the eight bytes of
-- a node in the place of the destination's, once for each command.
pub data IsRerouted (kind : Kind) : List Stored → List Stored → Type 0 where
  as_before : (records : List Stored) → IsRerouted kind records records
  to_node :
      (node : List ℕ) (before after : List Stored) → is_name node ≡ true
      → IsRerouted kind (records_to_node kind node None before) after → IsRerouted kind before after

-- A file that was there is this one now: of its number and its kind, in whatever state.
pub record IsStill (before now : WholeFile) : Type 0 where
  pub number : now.number ≡ before.number
  pub kind : now.kind ≡ before.kind
  pub records : IsRerouted before.kind before.records now.records

-- Of some files these are still there, in their order, and each other one has left.
pub data Survive : List WholeFile → List WholeFile → Type 0 where
  none : Survive [] []
  stays :
      (before now : WholeFile) (others still : List WholeFile) → IsStill before now → Survive others still
      → Survive (before ∷ others) (now ∷ still)
  leaves :
      (before : WholeFile) (others still : List WholeFile) → Survive others still → Survive (before ∷ others) still

-- What was there became this: of the files some are still there, and after them are others that came since, at most as
-- many as were counted.
pub record FilesGoOn (x y : Outgoing) : Type 0 where
  pub still : List WholeFile
  pub new : List WholeFile
  pub files : y.files ≡ still ++ new
  pub survive : Survive x.files still
  pub counted : x.arrived + length new ≤ y.arrived

-- So it is wherever moves lead, as long as the count isn't at its greatest.
abbrev pub FilesSurvive : Type 0
FilesSurvive =
    (entry : CustomerEntry) (came : Coming) (x y : Outgoing) → LeadsByMoves (MovesBy entry came) x y
    → y.arrived < max_arrived
    → FilesGoOn x y

-- So it is after an event,
abbrev pub EventsKeepFiles : Type 0
EventsKeepFiles =
    (p : Part) (event : OwnEvent) → let after = outgoing (event_run p event).after.customer in
    after.arrived < max_arrived → FilesGoOn (outgoing p.customer) after

-- after a step by bytes of a line,
abbrev pub TakesKeepFiles : Type 0
TakesKeepFiles =
    (p : Part) (l : ℕ) (piece : List ℕ) → l < length p.rests →
    let after = outgoing (part_after_bytes p l piece).after.customer in
    after.arrived < max_arrived → FilesGoOn (outgoing p.customer) after

-- after a run,
abbrev pub RunsKeepFiles : Type 0
RunsKeepFiles =
    (p : Part) (events : List OwnEvent) → let after = outgoing (alone_run p events).after.customer in
    after.arrived < max_arrived → FilesGoOn (outgoing p.customer) after

-- and after one thing and then another.
abbrev pub FilesGoOnFurther : Type 0
FilesGoOnFurther = (x y z : Outgoing) → FilesGoOn x y → FilesGoOn y z → FilesGoOn x z

-- ---- what is read from it

-- the files, but for as many of the last as the count went on by
abbrev pub files_before : Outgoing → Outgoing → List WholeFile
files_before x y = take (length y.files - (y.arrived - x.arrived)) y.files

-- These are files that are still there.
abbrev pub FirstFilesSurvive : Type 0
FirstFilesSurvive = (x y : Outgoing) → FilesGoOn x y → Survive x.files (files_before x y)

-- Which one a file was says its number, if no two files had one number.
abbrev pub SurvivorsAreNumbered : Type 0
SurvivorsAreNumbered =
    (files still : List WholeFile) (now : WholeFile) → Survive files still
    → ((n : ℕ) → count_by (λ f. f.number == n) files ≤ 1) → Contains still now
    → IsSomeAnd (find (λ f. f.number == now.number) files) (λ before. IsStill before now)
