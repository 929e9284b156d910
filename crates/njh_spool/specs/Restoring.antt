-- A whole file that was kept elsewhere, and what becomes of the customer's files where it is put back.
use Rattle.std.specs.Prelude.{◌+◌, Bool, true, false, List, Option, Some, None, is_some}
use Rattle.std.specs.Prelude.{nat_le, cond, ◌&&◌}
use Rattle.njh_header.specs.FileHeaders.{name_of, file_owner, destination_of}
use Rattle.njh_record.specs.Stored.{Stored}
use Rattle.njh_record.specs.declared.Kind.{Kind}
use Rattle.njh_spool.specs.CustomerSpool.{CustomerSpool, cost, next_number, has_file_room, used_blocks, with_arrived}
use Rattle.njh_spool.specs.declared.State.{State}
use Rattle.njh_spool.specs.declared.State.TheVariants.{Ready, Held}
use Rattle.njh_spool.specs.declared.restoring.fault.RestoreFault.{RestoreFault}
use Rattle.njh_spool.specs.declared.restoring.fault.RestoreFault.TheVariants.{QuotaOver, FilesOver, BadHeader}

-- what is kept of a whole file
pub record KeptFile : Type 0 where
  pub kind : Kind
  pub held : Bool
  pub records : List Stored

abbrev pub kept : Kind → Bool → List Stored → KeptFile
kept kind held records = record { kind = kind; held = held; records = records }

-- in which state it comes back
abbrev pub state_back : Bool → State
state_back true = Held
state_back false = Ready

-- the customer's files with it, the last in the order of arrival; it counts as arrived
abbrev pub with_restored : KeptFile → CustomerSpool → CustomerSpool
with_restored f s =
    with_arrived (record { number = next_number s; kind = f.kind; records = f.records; state = state_back f.held }) s

-- ---- why it can't be put back

-- its headers read: it has a name, an owner and a destination
abbrev pub has_headers : Kind → List Stored → Bool
has_headers kind records =
    is_some (name_of records) && (is_some (file_owner records) && is_some (destination_of kind records))

-- the quota holds the customer's files with it
abbrev pub has_blocks_for : List Stored → CustomerSpool → Bool
has_blocks_for records s = nat_le (used_blocks s + cost records) s.quota

-- by the customer's limits
abbrev pub limits_fault : List Stored → CustomerSpool → Option RestoreFault
limits_fault records s =
    cond (has_file_room s) (cond (has_blocks_for records s) None (Some QuotaOver)) (Some FilesOver)

-- the first of all
abbrev pub restore_fault : KeptFile → CustomerSpool → Option RestoreFault
restore_fault f s = cond (has_headers f.kind f.records) (limits_fault f.records s) (Some BadHeader)
