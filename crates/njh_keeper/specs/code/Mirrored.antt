-- What a spool file has of a hub's files: the rows of each customer, and the records under each key.
use Rattle.std.specs.Prelude.{◌≡◌, ◌≢◌, ℕ, ◌<◌, ◌≤◌, List, ◌++◌, length, take, drop, map, filter, Some}
use Rattle.std.specs.List.{AllByRecursion}
use Rattle.njh_record.specs.Stored.{Stored}
use Rattle.njh_spoolfile.specs.Kept.{File, SpoolContents, Rise, IsNumbered, contents_in, records_of}
use Rattle.njh_spoolfile.specs.Packed.{placed_from}
use Rattle.njh_spool.specs.Restoring.{KeptFile}
use Rattle.njh_keeper.specs.Opened.{Contents, file_in, is_own}

-- what stands in a spool file stands under rising numbers, and each record under that of its file and place
pub record IsOrdered (spool : SpoolContents) : Type 0 where
  pub files_rise : Rise spool.files
  pub records_rise : Rise spool.records
  pub numbered : AllByRecursion IsNumbered spool.records

-- the rows of the customer of this name, in the order of arrival
abbrev pub own_rows : List ℕ → SpoolContents → List (ℕ × File)
own_rows name spool = filter (λ e. is_own name e.1) spool.files

-- a hub's record as a spool file has it
abbrev pub as_packed : Stored → ℕ × List ℕ
as_packed r = (r.srcb, r.bytes)

-- these records at the places from this one on
abbrev pub contents_from : ℕ → List Stored → List Contents
contents_from place rs = placed_from place (map as_packed rs)

-- under this key stand these records and no other
abbrev pub HasRecords : ℕ → List Stored → SpoolContents → Type 0
HasRecords key rs spool = contents_in (records_of key spool) ≡ contents_from 0 rs

-- a record that a spool file can give back to a hub
abbrev pub FitsHub : Stored → Type 0
FitsHub r = (r.srcb < 256) × (length r.bytes ≤ 256)

-- a row is read as this file of a hub
abbrev pub ReadsAs : SpoolContents → ℕ × File → KeptFile → Type 0
ReadsAs spool e f = file_in e.1 (contents_in (records_of e.1.key spool)) ≡ Some f

-- ---- while a file is written

-- so many records as they were, and the others as they are now
abbrev pub front_then : ℕ → (before now : List Stored) → List Stored
front_then written before now = take written before ++ drop written now

-- nothing but records under this key comes or leaves
pub record WritesUnder (key : ℕ) (s t : SpoolContents) : Type 0 where
  pub files : t.files ≡ s.files
  pub ordered : IsOrdered t
  pub others : (other : ℕ) → other ≢ key → records_of other t ≡ records_of other s

-- nothing but rows of the customer of this name come, change or leave
pub record WritesRowsOf (name : List ℕ) (s t : SpoolContents) : Type 0 where
  pub records : t.records ≡ s.records
  pub ordered : IsOrdered t
  pub others : (other : List ℕ) → other ≢ name → own_rows other t ≡ own_rows other s
