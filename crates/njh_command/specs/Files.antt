-- A customer's whole files by their places in order of arrival.
use Rattle.std.specs.Prelude.{ℕ, List, [], Option, remove, slice_index_or, slice_set}
use Rattle.njh_record.specs.Stored.{Stored}
use Rattle.njh_record.specs.declared.Kind.{Kind}
use Rattle.njh_record.specs.declared.Kind.TheVariants.{In}
use Rattle.njh_header.specs.Redirecting.{destination_place, redirected_record}
use Rattle.njh_spool.specs.declared.State.TheVariants.{Ready}
use Rattle.njh_spool.specs.CustomerSpool.{CustomerSpool, WholeFile}

-- where there is no such file, one without records
abbrev pub no_file : WholeFile
no_file = record { number = 0; kind = In; records = []; state = Ready }

abbrev pub file_at : ℕ → CustomerSpool → WholeFile
file_at index s = slice_index_or s.whole index no_file

-- the spool with another file at a place
abbrev pub with_file : ℕ → WholeFile → CustomerSpool → CustomerSpool
with_file index f s = record s { whole = slice_set s.whole index f }

abbrev pub without_at : ℕ → CustomerSpool → CustomerSpool
without_at index s = record s { whole = remove s.whole index }

abbrev pub with_records : List Stored → WholeFile → WholeFile
with_records records f = record f { records = records }

-- ---- the records of a file

-- where there is no such record, one without bytes
abbrev pub no_record : Stored
no_record = record { srcb = 0; bytes = [] }

abbrev pub stored_at : ℕ → List Stored → Stored
stored_at n records = slice_index_or records n no_record

-- the n-th record with another destination node, where it names one, by the SRCB of the record before it
abbrev pub with_redirected : Kind → Option ℕ → List ℕ → ℕ → List Stored → List Stored
with_redirected kind before node n records =
    slice_set records n (redirected_record node (destination_place kind before (stored_at n records))
    (stored_at n records))
