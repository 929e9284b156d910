-- What a customer has of its whole files after the opening, file by file.
use Rattle.std.specs.Prelude.{◌≡◌, ◌||◌, if◌then◌else◌, List, [], map, Some}
use Rattle.njh_header.specs.FileHeaders.{destination_of}
use Rattle.njh_record.specs.Stored.{Stored}
use Rattle.njh_record.specs.declared.Kind.{Kind}
use Rattle.njh_spool.specs.Restoring.{KeptFile}
use Rattle.njh_spool.specs.CustomerSpool.{WholeFile}
use Rattle.njh_spool.specs.declared.State.{State}
use Rattle.njh_spool.specs.declared.State.TheVariants.{Ready, Held}
use Rattle.njh_stream.specs.Holding.{destination_unrouted}
use Rattle.njh_table.specs.Entries.{CustomerEntry}
use Rattle.njh_table.specs.Marks.{entry_unmarked}
use Rattle.njh_customer.specs.Customer.{fresh_customer}
use Rattle.njh_hub.specs.WholeHub.{Part, part_at_open}
use Rattle.njh_spoolfile.specs.Kept.{Whole}
use Rattle.njh_keeper.specs.Opened.{file_in}

-- a whole file without its number
pub record OpenedFile : Type 0 where
  pub kind : Kind
  pub records : List Stored
  pub state : State

abbrev pub opened_of : WholeFile → OpenedFile
opened_of f = record { kind = f.kind; records = f.records; state = f.state }

-- Held if it was kept as Held or its node has no route, and else Ready
abbrev pub state_opened : CustomerEntry → KeptFile → State
state_opened entry f =
    if f.held || destination_unrouted entry (destination_of f.kind f.records) then Held else Ready

abbrev pub as_opened : CustomerEntry → KeptFile → OpenedFile
as_opened entry f = record { kind = f.kind; records = f.records; state = state_opened entry f }

-- The customer has all of its files, in their order, with their records. No line is up, no file is partial, nothing has
-- come of a frame and nothing waits.
pub record HasOpened (entry : CustomerEntry) (ws : List Whole) (p : Part) : Type 0 where
  pub files : List KeptFile
  pub all : map (λ w. file_in w.file w.records) ws ≡ map Some files
  pub whole : map opened_of p.customer.spool.whole ≡ map (as_opened (entry_unmarked entry)) files
  pub partial : p.customer.spool.partial ≡ []
  pub entry_is : p.customer.entry ≡ entry_unmarked entry
  pub lines : p.customer.lines ≡ (fresh_customer entry).lines
  pub rests : p.rests ≡ (part_at_open entry).rests
