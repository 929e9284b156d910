-- A customer's whole files, as the search for those that may go on a line's streams goes on over them.
use Rattle.std.specs.Prelude.{◌≡◌, ◌≤◌, ◌<◌, ◌+◌, ℕ, Bool, true, false, ◌&&◌, List, length, take}
use Rattle.std.specs.List.{list_any}
use Rattle.njh_record.specs.declared.Kind.{Kind}
use Rattle.njh_record.specs.declared.Kind.TheVariants.{In, Out}
use Rattle.njh_spool.specs.CustomerSpool.{CustomerSpool, WholeFile}
use Rattle.njh_spool.specs.Spools.{spool_at}
use Rattle.njh_spool.specs.declared.file_headers.FileSummary.{FileSummary}
use Rattle.njh_stream.specs.Sending.{destination_goes_by, goes_by}
use Rattle.njh_table.specs.TableFile.{NamedCustomer, entry_of}
use Rattle.njh_table.specs.declared.LineId.{LineId}
use Rattle.njh_sched.specs.NextBlock.{is_ready, may_go, same_kind}

-- The line, its customer's entry, and for each kind of file the index at which the search goes on.
pub record FileCursor : Type 0 where
  pub entry : NamedCustomer
  pub id : LineId
  pub sysin : ℕ
  pub sysout : ℕ

-- before the first file
abbrev pub first_file : NamedCustomer → LineId → FileCursor
first_file entry id = record { entry = entry; id = id; sysin = 0; sysout = 0 }

-- the files that go by the line
abbrev pub goes_of : FileCursor → WholeFile → Bool
goes_of x = goes_by (entry_of x.entry) x.id.number

-- whether a file may go on the line's streams of a kind, by what is known of it without a look at its records
abbrev pub is_known_to_go : FileCursor → Kind → FileSummary → Bool
is_known_to_go x kind f =
    is_ready f.state
    && (same_kind f.kind kind && destination_goes_by (entry_of x.entry) x.id.number f.headers.destination)

-- the customer's part of the spool
abbrev pub files_of : FileCursor → List CustomerSpool → CustomerSpool
files_of x spools = spool_at x.id.customer spools

abbrev pub other : Kind → Kind
other In = Out
other Out = In

abbrev pub index_of : Kind → FileCursor → ℕ
index_of In x = x.sysin
index_of Out x = x.sysout

-- at these indices for a kind and for the other
abbrev pub cursor_at : Kind → ℕ → ℕ → FileCursor → FileCursor
cursor_at In index others x = record x { sysin = index; sysout = others }
cursor_at Out index others x = record x { sysin = others; sysout = index }

-- no file before an index may go on a stream of a kind
pub record HasPassed (goes : WholeFile → Bool) (kind : Kind) (index : ℕ) (s : CustomerSpool) : Type 0 where
  pub within : index ≤ length s.whole
  pub none : list_any (may_go goes kind) (take index s.whole) ≡ false

-- no file that the search has passed may go on a stream of its kind
pub record IsOver (x : FileCursor) (spools : List CustomerSpool) : Type 0 where
  pub range : x.id.customer < length spools
  pub passed : (kind : Kind) → HasPassed (goes_of x) kind (index_of kind x) (files_of x spools)

-- the search for the same line went on
pub record GoesOn (x y : FileCursor) (spools : List CustomerSpool) : Type 0 where
  pub line : y ≡ record x { sysin = y.sysin; sysout = y.sysout }
  pub over : IsOver y spools

-- an index behind a file that was passed, or as it was
abbrev pub passed_where : Bool → ℕ → ℕ → ℕ
passed_where true index before = index + 1
passed_where false index before = before
