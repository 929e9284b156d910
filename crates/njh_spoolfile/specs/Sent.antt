-- A file that was sent to another node: its row says so with a mark, and its records stand as they came.
use Rattle.std.specs.Prelude.{ℕ, ◌==◌, Bool, false, List, [], ◌∷◌, drop, Option, None, Some, Result, Ok, Err, bytes_eq}
use Rattle.std.specs.Prelude.{codes, if◌then◌else◌}
use Rattle.njh_ebcdic.specs.Reading.{name_of_text}
use Rattle.njh_ebcdic.specs.declared.name.NameFault.{NameFault}
use Rattle.njh_header.specs.Redirecting.{records_to_node}
use Rattle.njh_record.specs.Stored.{Stored}
use Rattle.njh_record.specs.declared.Kind.{Kind}
use Rattle.njh_record.specs.declared.Kind.TheVariants.{In, Out}

-- the word for a kind of file
abbrev pub kind_word : Kind → List ℕ
kind_word In = codes "SYSIN"
kind_word Out = codes "SYSOUT"

abbrev pub kind_of_word : List ℕ → Option Kind
kind_of_word word =
    if bytes_eq word (codes "SYSIN") then Some In else if bytes_eq word (codes "SYSOUT") then Some Out else None

-- ---- the mark

-- The mark is a ">" (62) before the node's name. Each header among the file's records that names its destination names
-- that node, whatever stands there. No name has the mark.
abbrev pub is_sent : List ℕ → Bool
is_sent [] = false
is_sent (c ∷ text) = c == 62

-- a node's text without the mark
abbrev pub without_mark : List ℕ → List ℕ
without_mark text = if is_sent text then drop 1 text else text

-- and with it, if the file was sent there
abbrev pub with_mark : (sent : Bool) → List ℕ → List ℕ
with_mark sent text = if sent then 62 ∷ text else text

-- ---- the records

-- of a record's place, SRCB and bytes the last two
abbrev pub as_stored : ℕ × ℕ × List ℕ → Stored
as_stored r = record { srcb = r.1; bytes = r.2 }

abbrev pub records_named : Kind → Result (List ℕ) NameFault → List Stored → Option (List Stored)
records_named kind (Ok node) records = Some (records_to_node kind node None records)
records_named kind (Err fault) records = None

-- The records of a file as they are now, by the text that its row has for its node and as they stand. None if the text
-- has the mark and no name behind it.
abbrev pub records_now : Kind → List ℕ → List Stored → Option (List Stored)
records_now kind text records =
    if is_sent text then records_named kind (name_of_text (drop 1 text)) records else Some records
