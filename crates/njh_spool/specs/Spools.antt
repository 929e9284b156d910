-- The spool as the list of its customers' spools: what its calls answer, and what holds of each after every call.
use Rattle.std.specs.Prelude.{◌≡◌, ℕ, ◌+◌, ◌<◌, ◌≤◌, Bool, true, false, List, length, count_by, slice_get}
use Rattle.std.specs.Prelude.{slice_index_or}
use Rattle.std.specs.Prelude.{Option, Some, None, Result, ◌==◌, All}
use Rattle.std.specs.Option.{option_map, option_or, option_and_then, ok_or, is_some}
use Rattle.njh_record.specs.Stored.{Stored}
use Rattle.njh_record.specs.declared.Kind.{Kind}
use Rattle.njh_spool.specs.declared.SpoolFault.{SpoolFault}
use Rattle.njh_spool.specs.declared.SpoolFault.TheVariants.{QuotaFull, TooManyFiles, NoSuchFile}
use Rattle.njh_table.specs.Limits.{max_quota, max_files}
use Rattle.njh_spool.specs.CustomerSpool.{CustomerSpool, WholeFile, empty_spool, used_blocks, has_file_room, has_block}
use Rattle.njh_spool.specs.CustomerSpool.{partial_numbered, whole_numbered, has_room_for}

-- a customer that the spool does not have
abbrev pub no_spool : CustomerSpool
no_spool = empty_spool 0 0

-- a customer's part of the spool
abbrev pub spool_at : ℕ → List CustomerSpool → CustomerSpool
spool_at c spools = slice_index_or spools c no_spool

-- how many files have a number
abbrev pub files_numbered : ℕ → CustomerSpool → ℕ
files_numbered n s = count_by (λ f. f.number == n) s.whole + count_by (λ f. f.number == n) s.partial

-- what holds of a customer's spool after every call
pub record IsSound (s : CustomerSpool) : Type 0 where
  pub within_quota : used_blocks s ≤ s.quota
  pub within_limit : length s.whole + length s.partial ≤ s.limit
  pub apart : (n : ℕ) → files_numbered n s ≤ 1
  pub numbered : (n : ℕ) → s.limit ≤ n → files_numbered n s ≡ 0
  pub quota_limit : s.quota ≤ max_quota
  pub files_limit : s.limit ≤ max_files

-- each record of a whole file is of 256 bytes at most
abbrev pub HasShortRecords : WholeFile → Type 0
HasShortRecords f = All (λ r. length r.bytes ≤ 256) f.records

-- what a file can have as a record: its SRCB is a byte, and it is of 256 bytes at most
abbrev pub IsStorable : Stored → Type 0
IsStorable r = (r.srcb < 256) × (length r.bytes ≤ 256)

-- a fault where a test fails
abbrev pub fault_unless : Bool → SpoolFault → Option SpoolFault
fault_unless true fault = None
fault_unless false fault = Some fault

-- why a file can't begin
abbrev pub begin_fault : CustomerSpool → Option SpoolFault
begin_fault s = option_or (fault_unless (has_file_room s) TooManyFiles) (fault_unless (has_block s) QuotaFull)

-- why a record can't be appended to the file of a number
abbrev pub append_fault : ℕ → Stored → CustomerSpool → Option SpoolFault
append_fault n r s =
    option_or (fault_unless (is_some (partial_numbered n s)) NoSuchFile) (fault_unless (has_room_for n r s) QuotaFull)

-- what a call answers of a file that may not be there
abbrev pub or_no_file : {A : Type 0} → Option A → Result A SpoolFault
or_no_file answer = ok_or answer NoSuchFile

-- of the file of a number, whole or partial
abbrev pub kind_numbered : ℕ → CustomerSpool → Option Kind
kind_numbered n s =
    option_or (option_map (λ f. f.kind) (whole_numbered n s)) (option_map (λ f. f.kind) (partial_numbered n s))

abbrev pub records_numbered : ℕ → CustomerSpool → Option (List Stored)
records_numbered n s =
    option_or (option_map (λ f. f.records) (whole_numbered n s)) (option_map (λ f. f.records) (partial_numbered n s))

-- its record at an index
abbrev pub record_numbered : ℕ → ℕ → CustomerSpool → Option Stored
record_numbered n k s = option_and_then (λ records. slice_get records k) (records_numbered n s)
