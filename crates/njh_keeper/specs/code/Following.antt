-- What calls of the keeper make of a customer's whole files on a spool file.
use Rattle.std.specs.Prelude.{◌≡◌, ◌≢◌, ◌⊎◌, ℕ, ◌+◌, ◌<◌, ◌≤◌, Bool, true, false, List, [], ◌∷◌, ◌++◌, length}
use Rattle.std.specs.Prelude.{get_or, string_bytes, take}
use Rattle.std.specs.List.{AllByRecursion}
use Rattle.sqlite.specs.State.{State}
use Rattle.sqlite.specs.Store.{Ghosts}
use Rattle.njh_customer.specs.Surviving.{FilesGoOn, IsRerouted, IsStill}
use Rattle.njh_customer.specs.Customer.{Customer}
use Rattle.njh_ebcdic.specs.Names.{is_name}
use Rattle.njh_customer.specs.OutgoingFiles.{outgoing}
use Rattle.njh_stream.specs.SpoolFiles.{records_in}
use Rattle.njh_hub.specs.Files.{said_destination}
use Rattle.njh_hub.specs.Views.{file_summary}
use Rattle.njh_hub.specs.WholeHub.{Part, part}
use Rattle.njh_hub.specs.declared.file_summary.FileSummaryView.{FileSummaryView}
use Rattle.njh_spoolfile.specs.Shelf.{shown}
use Rattle.njh_spoolfile.specs.Steps.{Changes}
use Rattle.njh_header.specs.WholeFiles.{HasHeaders}
use Rattle.njh_record.specs.Stored.{Stored}
use Rattle.njh_record.specs.declared.Kind.{Kind}
use Rattle.njh_spool.specs.CustomerSpool.{WholeFile, max_arrived}
use Rattle.njh_spoolfile.specs.Kept.{File, SpoolContents, records_of, with_changed, with_file}
use Rattle.njh_spoolfile.specs.Sent.{with_mark}
use Rattle.njh_keeper.specs.Opened.{is_name_of, is_own}
use Rattle.njh_keeper.specs.declared.own_files.HubFile.{HubFile}
use Rattle.njh_keeper.specs.declared.own_files.OwnFiles as own_files
use Rattle.njh_keeper.specs.declared.writer.SpoolWriter as spool_writer
use Rattle.njh_keeper.specs.code.Leading.{Leads}
use Rattle.njh_keeper.specs.code.Memory.{numbers_of, own_of}
use Rattle.njh_keeper.specs.code.Mirrored.{HasRecords, IsOrdered}
use Rattle.njh_keeper.specs.code.Remembered.{AreApart, AreBelow, Claim, IsRowOf, KeptPartial, KeptWhole, Mirrored}
use Rattle.njh_keeper.specs.code.Remembered.{Moves}
use Rattle.njh_keeper.specs.code.Remembered.{NameOneNode, Numbers, OwnFiles, Remembers, claim, with_key}
use Rattle.njh_keeper.specs.code.Shown.{field_text}
use Rattle.njh_keeper.specs.code.Walking.{AreNumbered}

-- what is remembered of a customer and of the numbers, and the customer's name as each row has it
pub record Memory : Type 0 where
  pub numbers : Numbers
  pub own : OwnFiles
  pub text : List ℕ

abbrev pub memory_of : {S : Type 0} → spool_writer.SpoolWriter S → own_files.OwnFiles → Memory
memory_of w own = record { numbers = numbers_of w; own = own_of own; text = string_bytes own.text }

abbrev pub claim_of : Memory → Claim
claim_of m = claim m.numbers m.own

-- The spool file has these whole files of the customer, each of which has headers that read, and what is written next
-- stands apart from them.
pub record HasFiles (m : Memory) (s : SpoolContents) (files : List WholeFile) : Type 0 where
  pub ordered : IsOrdered s
  pub below : AreBelow m.numbers.next_id s
  pub apart : AreApart (claim_of m)
  pub named : is_name_of m.text m.own.name ≡ true
  pub mirrored : Mirrored s m.own files
  pub headers : AllByRecursion (λ f. HasHeaders f.kind f.records) files

-- of some files that aren't whole these are remembered still
pub data Remain : List KeptPartial → List KeptPartial → Type 0 where
  none : Remain [] []
  stays : (p : KeptPartial) (before now : List KeptPartial) → Remain before now → Remain (p ∷ before) (p ∷ now)
  leaves : (p : KeptPartial) (before now : List KeptPartial) → Remain before now → Remain (p ∷ before) now

-- A call leads there: these are the customer's whole files then, and what is kept of files that aren't whole stays.
pub record GoesTo (m m' : Memory) (s t : SpoolContents) (files : List WholeFile) : Type 0 where
  pub moves : Moves (claim_of m) (claim_of m') s t
  pub has : HasFiles m' t files
  pub remain : Remain m.own.partial m'.own.partial
  pub records : AllByRecursion (λ p. records_of p.key t ≡ records_of p.key s) m'.own.partial

-- a stage of a step: what is remembered then, and what the spool file shows
pub record Stage : Type 1 where
  pub memory : Memory
  pub shows : State

abbrev pub stage_of : {S : Type 0} → Ghosts S → spool_writer.SpoolWriter S → own_files.OwnFiles → Stage
stage_of g w own = record { memory = memory_of w own; shows = shown g w.store }

-- the same from one stage to another, if these whole files are given on the spool file
abbrev pub LeadsFiles : (Given : SpoolContents → List WholeFile → Type 0)
    → (Becomes : List WholeFile → List WholeFile → Type 0) → (before after : Stage) → Type 0
LeadsFiles Given Becomes before after =
    Leads (λ s t. (files : List WholeFile) → HasFiles before.memory s files → Given s files
    → (now : List WholeFile) × Becomes files now × GoesTo before.memory after.memory s t now) before.shows after.shows

-- ---- beside the hub's files

-- Of each file that isn't whole what is kept is a front of the records of the file that it became, as they were before
-- that was sent elsewhere: so many records stand under its number.
pub record IsFrontOf (s : SpoolContents) (key written : ℕ) (kind : Kind) (now : List Stored) : Type 0 where
  pub before : List Stored
  pub within : written ≤ length now
  pub rerouted : IsRerouted kind before now
  pub stored : HasRecords key (take written before) s

abbrev pub IsFrontWhere : SpoolContents → KeptPartial → WholeFile → Type 0
IsFrontWhere s p f =
    f.number ≡ p.number → p.seen ≤ length f.records → IsFrontOf s p.key p.written f.kind f.records

abbrev pub AreFronts : SpoolContents → List KeptPartial → List WholeFile → Type 0
AreFronts s partial files = AllByRecursion (λ p. AllByRecursion (IsFrontWhere s p) files) partial

-- The file of this number of a customer of a hub is this one, and so its summary says.
pub record IsHubFile (hub : List Part) (file : HubFile) (summary : FileSummaryView) (g : WholeFile) : Type 0 where
  pub summary_is : summary ≡ file_summary g
  pub number_is : file.number ≡ g.number
  pub records_are : records_in file.number (part file.customer hub).customer.spool ≡ g.records
  pub headers : HasHeaders g.kind g.records

-- the file at the place is this one now
pub record IsStillAt (files : List WholeFile) (place : ℕ) (now : WholeFile) : Type 0 where
  pub before : WholeFile
  pub is : before ≡ get_or files place before
  pub still : IsStill before now

-- ---- rows

-- the row of a customer's file of which this is said
pub record IsRowFor (text : List ℕ) (key : ℕ) (sent : Bool) (summary : FileSummaryView) (row : File) : Type 0 where
  pub of_file : (f : WholeFile) → summary ≡ file_summary f → IsRowOf key f row
  pub owned : (name : List ℕ) → is_name_of text name ≡ true → is_own name row ≡ true
  pub node : row.to_node ≡ with_mark sent (field_text summary.destination.node)

-- such a row takes the place of one
pub record ChangesRow (text : List ℕ) (id key : ℕ) (sent : Bool) (summary : FileSummaryView) (old new : State) : Type
    0 where
  pub row : File
  pub is_row : IsRowFor text key sent summary row
  pub changes : Changes (with_changed id row) old new

-- A file's row may say that it was sent to its node: its headers name that node and no other, and it is a name.
pub record MayBeMarked (g : WholeFile) : Type 0 where
  pub one : NameOneNode g.kind g.records
  pub name : is_name (said_destination g.kind g.records).node ≡ true

-- It needn't: none of its records was written before it was whole, or its headers name several nodes, or what is none.
abbrev pub MayBePlain : (written : ℕ) → WholeFile → Type 0
MayBePlain written g =
    (written ≡ 0) ⊎ ((¬ NameOneNode g.kind g.records) ⊎ (is_name (said_destination g.kind g.records).node ≡ false))

pub record IsMarkedWell (sent : Bool) (written : ℕ) (g : WholeFile) : Type 0 where
  pub marked : sent ≡ true → MayBeMarked g
  pub plain : sent ≡ false → MayBePlain written g

-- It is remembered as one more, under the number in hand, and so is its row added. So many of its records were written
-- before it was whole.
pub record AddsRow (key written : ℕ) (summary : FileSummaryView) (g : WholeFile) (before after : Stage) : Type 0 where
  pub kept : KeptWhole
  pub row : File
  pub id : kept.id ≡ before.memory.numbers.next_id
  pub key_is : kept.key ≡ key
  pub remembers : Remembers kept g
  pub mark : IsMarkedWell kept.is_sent written g
  pub memory : let m = before.memory in after.memory ≡ record {
    numbers = record m.numbers { next_id = m.numbers.next_id + 1 };
    own = record m.own { whole = m.own.whole ++ kept ∷ [] };
    text = m.text;
  }
  pub is_row : IsRowFor before.memory.text key kept.is_sent summary row
  pub changes : Changes (with_file kept.id row) before.shows after.shows

-- ---- a number in hand

-- This number is in hand, and so many records stand under it, a front of a file's as they were before that was sent
-- elsewhere. The files are what they were.
pub record IsInHand (key written : ℕ) (m m' : Memory) (s t : SpoolContents) (files : List WholeFile) (g : WholeFile)
    : Type 0 where
  pub moves : Moves (claim_of m) (with_key key (claim_of m')) s t
  pub text : m'.text ≡ m.text
  pub mirrored : Mirrored t m'.own files
  pub remain : Remain m.own.partial m'.own.partial
  pub records : AllByRecursion (λ p. records_of p.key t ≡ records_of p.key s) m'.own.partial
  pub front : IsFrontOf t key written g.kind g.records

abbrev pub LeadsInHand : (key written : ℕ) → WholeFile → (before after : Stage) → Type 0
LeadsInHand key written g before after =
    Leads (λ s t. (files : List WholeFile) → HasFiles before.memory s files
    → AreFronts s before.memory.own.partial (g ∷ [])
    → IsInHand key written before.memory after.memory s t files g) before.shows after.shows

-- ---- all of a hub's files

-- this is the file at the place
pub record IsAt (files : List WholeFile) (place : ℕ) (file : WholeFile) : Type 0 where
  pub there : place < length files
  pub is : file ≡ get_or files place file

-- Where a file is remembered at a place, it is found: the file that stands there now has its number, or has another.
pub record IsSought (whole : List KeptWhole) (still : List WholeFile) (place : ℕ) (found : Bool) : Type 0 where
  pub kept : KeptWhole
  pub is : kept ≡ get_or whole place kept
  pub same : found ≡ true → (f : WholeFile) → IsAt still place f → kept.number ≡ f.number
  pub other : found ≡ false → (f : WholeFile) → IsAt still place f → kept.number ≢ f.number

-- These were a customer's whole files when so many had become whole; since then they went on to be those that it has
-- now.
pub record GoOnIn (arrived : ℕ) (files : List WholeFile) (now : Customer) : Type 0 where
  pub numbered : AreNumbered files
  pub goes : now.spool.arrived < max_arrived
      → FilesGoOn (record (outgoing now) { files = files; arrived = arrived }) (outgoing now)

-- ---- if nothing is written

-- If no whole file has changed since the last commit, none had before either, and the spool file is as it was.
abbrev pub IsQuiet : {S : Type 0} → spool_writer.SpoolWriter S → spool_writer.SpoolWriter S → Type 0
IsQuiet old new = new.is_changed ≡ false → (old.is_changed ≡ false) × (new.store ≡ old.store)
