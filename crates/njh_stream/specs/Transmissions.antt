-- Transmissions to the hub (IBM SC23-0070, "Data streams"): which records are taken for a file, and what becomes of
-- one. A record is judged by the list of those that came before it.
use Rattle.std.specs.Prelude.{ℕ, Bool, true, false, List, [], ◌∷◌, ◌++◌, Option, Some, None, Ok, Err, ◌==◌, cond, not}
use Rattle.std.specs.Prelude.{◌&&◌, bytes_eq}
use Rattle.std.specs.List.{list_all}
use Rattle.std.specs.Option.{option_map}
use Rattle.njh_header.specs.FileNames.{FileName}
use Rattle.njh_ebcdic.specs.Names.{is_name}
use Rattle.njh_record.specs.Stored.{Stored, has_srcb}
use Rattle.njh_record.specs.declared.Kind.{Kind}
use Rattle.njh_record.specs.declared.Kind.TheVariants.{In, Out}
use Rattle.njh_header.specs.Headers.{job_header, JobHeader, data_set_header, job_name}
use Rattle.njh_header.specs.FileHeaders.{data_set_header_of, name_of}
use Rattle.njh_texts.specs.Texts.{node_unknown, no_files_for, routed_back, spool_full}
use Rattle.njh_table.specs.Entries.{CustomerEntry, route_of}
use Rattle.njh_table.specs.declared.Route.TheVariants.{Here, Line, Unknown}

-- A record is taken, or it cancels its file, and then the owner may be told why.
pub data RecordVerdict : Type 0 where
  Taken : RecordVerdict
  Cancelled : (text : Option (List ℕ)) → RecordVerdict

-- ---- where a file goes

-- The node that a file is for, by the file's name and the line on which it comes: never the hub itself, nor a node that
-- nobody has, nor back by the line.
abbrev pub judged_node : CustomerEntry → ℕ → List ℕ → Option FileName → RecordVerdict
judged_node entry l node name =
    elim (route_of entry node) [
      | Here ↦ Cancelled (Some (no_files_for entry.hub))
      | Line n ↦ cond (n == l) (Cancelled (option_map routed_back name)) Taken
      | Unknown ↦ Cancelled (Some (node_unknown node))
    ]

-- a job's header says where it runs
abbrev pub judged_job : CustomerEntry → ℕ → JobHeader → RecordVerdict
judged_job entry l h =
    cond (is_name h.execution.node) (judged_node entry l h.execution.node (Some (job_name h))) (Cancelled None)

-- ---- which records come in which order

-- the first record is a job header that reads
abbrev pub judged_first : CustomerEntry → ℕ → Kind → Stored → RecordVerdict
judged_first entry l kind r =
    elim (has_srcb 0xc0 r) [
      | false ↦ Cancelled None
      | true ↦ elim (job_header r.bytes) [
        | Err fault ↦ Cancelled None
        | Ok h ↦ elim kind [ In ↦ judged_job entry l h | Out ↦ Taken ]
      ]
    ]

-- what follows the job header of an output file is a data set header that reads
abbrev pub judged_data_set : CustomerEntry → ℕ → List Stored → Stored → RecordVerdict
judged_data_set entry l earlier r =
    elim (has_srcb 0xe0 r) [
      | false ↦ Cancelled None
      | true ↦ elim (data_set_header r.bytes) [
        | Err fault ↦ Cancelled None
        | Ok h ↦ judged_node entry l h.destination.node (name_of earlier)
      ]
    ]

-- the destination's node of the first data set header
abbrev pub file_node : List Stored → List ℕ
file_node records = elim (data_set_header_of records) [ Some h ↦ h.destination.node | None ↦ [] ]

-- a data set header that has to name this node
abbrev pub judged_against : List ℕ → List ℕ → RecordVerdict
judged_against node bytes =
    elim (data_set_header bytes) [
      | Err fault ↦ Cancelled None
      | Ok h ↦ cond (bytes_eq h.destination.node node) Taken (Cancelled None)
    ]

-- a later data set header names the same node
abbrev pub judged_later : List Stored → Stored → RecordVerdict
judged_later earlier r = judged_against (file_node earlier) r.bytes

-- whether the last record has this SRCB
abbrev pub ends_in : ℕ → List Stored → Bool
ends_in srcb [] = false
ends_in srcb (r ∷ []) = has_srcb srcb r
ends_in srcb (r ∷ s ∷ rs) = ends_in srcb (s ∷ rs)

-- a data set header directly after another continues it and isn't read
abbrev pub is_continuation : List Stored → Bool
is_continuation earlier = ends_in 0xe0 earlier

-- A record of an output file behind its first: job headers directly after the first continue it, then comes a data set
-- header. All other records are data.
abbrev pub judged_output : CustomerEntry → ℕ → List Stored → Stored → RecordVerdict
judged_output entry l earlier r =
    elim (list_all (has_srcb 0xc0) earlier) [
      | true ↦ elim (has_srcb 0xc0 r) [ true ↦ Taken | false ↦ judged_data_set entry l earlier r ]
      | false ↦ elim (has_srcb 0xe0 r && not (is_continuation earlier))
          [ true ↦ judged_later earlier r | false ↦ Taken ]
    ]

-- a record that comes after earlier ones
abbrev pub verdict_of : CustomerEntry → ℕ → Kind → List Stored → Stored → RecordVerdict
verdict_of entry l kind [] r = judged_first entry l kind r
verdict_of entry l In (e ∷ es) r = Taken
verdict_of entry l Out (e ∷ es) r = judged_output entry l (e ∷ es) r

-- the records of a transmission that ends here are a whole file: the last one is a trailer
abbrev pub is_whole : List Stored → Bool
is_whole records = ends_in 0xd0 records

-- ---- with the room that there is

-- What comes of a transmission: a record, for which the spool has room at that moment or not, or one of more than 256
-- bytes.
pub data ComingRecord : Type 0 where
  Fitting : (stored : Stored) → (room : Bool) → ComingRecord
  TooLong : ComingRecord

-- the text for the owner where the quota has no room, if the file has a name
abbrev pub full_text : Option FileName → Option (List ℕ)
full_text name = option_map spool_full name

-- the verdict on a record, with which the file's records are these, where there is room for it or not
abbrev pub with_room : Bool → List Stored → RecordVerdict → RecordVerdict
with_room room more (Cancelled text) = Cancelled text
with_room true more Taken = Taken
with_room false more Taken = Cancelled (full_text (name_of more))

-- what comes after earlier records is judged first and stored last
abbrev pub judged_coming : CustomerEntry → ℕ → Kind → List Stored → ComingRecord → RecordVerdict
judged_coming entry l kind earlier TooLong = Cancelled None
judged_coming entry l kind earlier (Fitting r room) =
    with_room room (earlier ++ r ∷ []) (verdict_of entry l kind earlier r)
