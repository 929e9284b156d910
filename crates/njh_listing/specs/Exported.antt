-- What is written of a file's records.
use Rattle.std.specs.Prelude.{◌≡◌, ℕ, ◌==◌, Bool, true, false, ◌||◌, cond, List, [], ◌∷◌, ◌++◌}
use Rattle.std.specs.Prelude.{flat_map, if◌then◌else◌, map, None, Option, Some}
use Rattle.std.specs.Io.KnownBytes.{Appends}
use Rattle.njh_ebcdic.specs.CodePage.{text_words}
use Rattle.njh_io.specs.Written.{AppendsBeginning}
use Rattle.njh_record.specs.Stored.{Stored}
use Rattle.njh_spoolfile.specs.Kept.{File, SpoolContents, contents_in, records_of}
use Rattle.njh_spoolfile.specs.Sent.{as_stored, kind_of_word, records_now}
use Rattle.njh_listing.specs.Asked.{asked_of, key_in}

-- a header or a trailer, of a job or of a data set
unfoldable pub is_header : ℕ → Bool
is_header srcb = (srcb == 0xc0) || ((srcb == 0xd0) || ((srcb == 0xe0) || (srcb == 0xf0)))

-- a record as a line of text, with its blanks at the end; nothing of a header or a trailer
unfoldable pub record_line : Stored → List ℕ
record_line r = cond (is_header r.srcb) [] (text_words r.bytes ++ 10 ∷ [])

abbrev pub record_bytes : Stored → List ℕ
record_bytes r = r.bytes

-- the bytes of all records, one after the other; or a line for each record of data
abbrev pub export_text : Bool → List Stored → List ℕ
export_text true records = flat_map record_bytes records
export_text false records = flat_map record_line records

-- What is written of some records came after what had been written; or a beginning of it did.
abbrev pub IsExported : Bool → (old new : Option (List ℕ)) → Type 0
IsExported raw old new = (records : List Stored) × Appends old new (export_text raw records)

abbrev pub IsExportedInPart : Bool → (old new : Option (List ℕ)) → Type 0
IsExportedInPart raw old new = (records : List Stored) × AppendsBeginning old new (export_text raw records)

-- The records of a file as they are now, by its row. Those of one whose row says no kind, or that it was sent to what
-- is no name, are given as they stand.
abbrev pub now_or_so : List Stored → Option (List Stored) → List Stored
now_or_so records None = records
now_or_so records (Some now) = now

abbrev pub records_by_row : File → List Stored → List Stored
records_by_row file records = elim (kind_of_word file.kind)
    [ None ↦ records | Some kind ↦ now_or_so records (records_now kind file.to_node records) ]

-- by the first row of this key
abbrev pub records_by_rows : ℕ → List (ℕ × File) → List Stored → List Stored
records_by_rows key [] records = records
records_by_rows key (e ∷ es) records =
    if e.1.key == key then records_by_row e.1 records else records_by_rows key es records

-- One file of a spool is asked for, and no other; and this is what is written of its records, all in their order.
abbrev pub IsTextOf : (customer : Option (List ℕ)) → (number : Option ℕ) → (name : List ℕ) → (raw : Bool)
    → SpoolContents
    → (text : List ℕ) → Type 0
IsTextOf customer number name raw spool text = (key : ℕ)
    × (map key_in (asked_of customer number name spool.files) ≡ key ∷ [])
    × (text ≡ export_text raw
    (records_by_rows key spool.files (map as_stored (contents_in (records_of key spool)))))

-- It came after what had been written.
abbrev pub IsExportedOf : (customer : Option (List ℕ)) → (number : Option ℕ) → (name : List ℕ) → (raw : Bool)
    → SpoolContents
    → (old new : Option (List ℕ)) → Type 0
IsExportedOf customer number name raw spool old new = (text : List ℕ)
    × IsTextOf customer number name raw spool text × Appends old new text
