-- What a hub has that is opened from a spool file: each customer its own whole files, put back in their order.
use Rattle.std.specs.Prelude.{◌≡◌, ℕ, ◌+◌, ◌<◌, ◌==◌, Bool, true, false, ◌&&◌, nat_lt, nat_le, if◌then◌else◌, bytes_eq}
use Rattle.std.specs.Prelude.{List, [], ◌∷◌, length, map, filter, fold, slice_set, Option, Some, None}
use Rattle.std.specs.Prelude.{option_map}
use Rattle.std.specs.Prelude.{Ok, Err, ⊤}
use Rattle.std.specs.List.{position_from}
use Rattle.njh_ebcdic.specs.Reading.{name_of_text}
use Rattle.njh_record.specs.Stored.{Stored}
use Rattle.njh_record.specs.declared.Kind.{Kind}
use Rattle.njh_spool.specs.Restoring.{KeptFile, restore_fault}
use Rattle.njh_table.specs.Entries.{CustomerEntry}
use Rattle.njh_table.specs.TableFile.{TableFile, customer_at, entry_of}
use Rattle.njh_hub.specs.Restored.{part_with_file}
use Rattle.njh_hub.specs.WholeHub.{Part, part, part_at_open}
use Rattle.njh_spoolfile.specs.Kept.{File, SpoolContents, Whole}
use Rattle.njh_spoolfile.specs.Lists.{kept_where}
use Rattle.njh_spoolfile.specs.Sent.{as_stored, kind_of_word, records_now}
use Rattle.njh_keeper.specs.declared.fault.FileFault.{FileFault}
use Rattle.njh_keeper.specs.declared.fault.FileFault.TheVariants.{BadFile, Refused}

-- ---- a whole file of a spool file as a hub has it

-- of a record its place, its SRCB and its bytes
abbrev pub Contents : Type 0
Contents = ℕ × ℕ × List ℕ

-- at this place, with an SRCB that is a byte, and at most 256 bytes
abbrev pub is_record_at : ℕ → Contents → Bool
is_record_at place r = (r.0 == place) && (nat_lt r.1 256 && nat_le (length r.2) 256)

-- at the places from this one on, without a hole
abbrev pub are_records_from : ℕ → List Contents → Bool
are_records_from place [] = true
are_records_from place (r ∷ rs) = is_record_at place r && are_records_from (place + 1) rs

-- all the records that a file says it has
abbrev pub are_records_of : File → List Contents → Bool
are_records_of file records = (length records == file.records) && are_records_from 0 records

-- The records of a file of a kind as a hub has them. None if they aren't all there, or if the file's row says that it
-- was sent to what is no name.
abbrev pub whole_records : Kind → File → List Contents → Option (List Stored)
whole_records kind file records =
    if are_records_of file records then records_now kind file.to_node (map as_stored records) else None

-- The file as a hub has it: its kind, whether it is Held, and its records. None if its kind is none either.
abbrev pub file_in : File → List Contents → Option KeptFile
file_in file records = elim (kind_of_word file.kind) [
  | None ↦ None
  | Some kind ↦ option_map (λ all. record { kind = kind; held = file.held; records = all })
      (whole_records kind file records)
]

-- ---- it is put back, or isn't

abbrev pub file_fault : Part → File → List Contents → Option FileFault
file_fault p file records = elim (file_in file records)
    [ None ↦ Some BadFile | Some f ↦ option_map Refused (restore_fault f p.customer.spool) ]

abbrev pub with_file : Part → File → List Contents → Part
with_file p file records = elim (file_in file records) [ None ↦ p | Some f ↦ part_with_file f p ]

-- why a whole file of a spool isn't put back into a customer's part, and the part with it
abbrev pub whole_fault : Part → Whole → Option FileFault
whole_fault p w = file_fault p w.file w.records

abbrev pub with_whole : Part → Whole → Part
with_whole p w = with_file p w.file w.records

-- ---- a customer alone

-- a text is this customer's name
abbrev pub is_name_of : List ℕ → List ℕ → Bool
is_name_of text name = elim (name_of_text text) [ Ok read ↦ bytes_eq read name | Err fault ↦ false ]

abbrev pub is_own : List ℕ → File → Bool
is_own name file = is_name_of file.customer name

-- of some whole files those of the customer of this name
abbrev pub own : List ℕ → List Whole → List Whole
own name ws = filter (λ w. is_own name w.file) ws

-- a customer's whole files on a spool file, in their order of arrival
abbrev pub own_files : List ℕ → SpoolContents → List Whole
own_files name spool = kept_where (is_own name) spool

-- A customer's part of a hub that was opened from these files of its own: each is put back, one after the other.
abbrev pub part_opened : CustomerEntry → List Whole → Part
part_opened entry ws = fold with_whole (part_at_open entry) ws

-- each of them could be put back
abbrev pub AreBack : Part → List Whole → Type 0
AreBack p [] = ⊤
AreBack p (w ∷ ws) = (whole_fault p w ≡ None) × AreBack (with_whole p w) ws

-- ---- the hub

abbrev pub hub_opened : TableFile → SpoolContents → List Part
hub_opened table spool = map (λ c. part_opened (entry_of c) (own_files c.name spool)) table.customers

-- the files of each customer of the tables could be put back
abbrev pub AllAreBack : TableFile → List Whole → Type 0
AllAreBack table ws = (c : ℕ) → c < length table.customers
    → AreBack (part_at_open (entry_of (customer_at table c))) (own (customer_at table c).name ws)

-- ---- one whole file of any customer

-- the first of these names, numbered from this one on, that a text is
abbrev pub number_from : ℕ → List (List ℕ) → List ℕ → Option ℕ
number_from n names text = position_from (λ name. is_name_of text name) n names

abbrev pub number_of : List (List ℕ) → List ℕ → Option ℕ
number_of names text = number_from 0 names text

-- a hub with one whole file more, if its customer is one of these
abbrev pub hub_with : List (List ℕ) → List Part → Whole → List Part
hub_with names parts w = elim (number_of names w.file.customer)
    [ None ↦ parts | Some c ↦ slice_set parts c (with_whole (part c parts) w) ]

-- why it isn't put back, if its customer is one of these
abbrev pub hub_fault : List (List ℕ) → List Part → Whole → Option FileFault
hub_fault names parts w = elim (number_of names w.file.customer) [ None ↦ None | Some c ↦ whole_fault (part c parts) w ]
