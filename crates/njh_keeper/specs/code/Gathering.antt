-- Records of a file that are gathered for its next row, and rows that come behind those that stand there.
use Rattle.std.specs.Prelude.{◌≡◌, ℕ, ◌-◌, ◌<◌, ◌≤◌, List, length, get_or, take, drop, map}
use Rattle.njh_record.specs.Stored.{Stored}
use Rattle.njh_spoolfile.specs.{Kept.SpoolContents, Packed.packed}
use Rattle.njh_keeper.specs.declared.next_row.NextRow.{NextRow}
use Rattle.njh_keeper.specs.declared.writer.SpoolWriter.{SpoolWriter}
use Rattle.njh_keeper.specs.code.Counting.{CountsMore}
use Rattle.njh_keeper.specs.code.Mirrored.{HasRecords, IsOrdered, WritesUnder, as_packed}

-- this is the record of a file at this place
abbrev pub IsRecordAt : List Stored → ℕ → Stored → Type 0
IsRecordAt all place r = (place < length all) × (r ≡ get_or all place r)

-- as many of its records, from a row's place on, as the row has
abbrev pub gathered : List Stored → NextRow → List Stored
gathered all row = take row.count (drop row.place all)

-- A row has these.
pub record Gathers (all : List Stored) (row : NextRow) : Type 0 where
  pub there : row.count ≤ length all - row.place
  pub bytes : row.pack ≡ packed (map as_packed (gathered all row))

-- If the records before one place stand under a key of a file that has these from there on, those before another place
-- stand there then.
abbrev pub Continues : (key : ℕ) (all : List Stored) (first next : ℕ) → SpoolContents → SpoolContents → Type 0
Continues key all first next s t =
    (file : List Stored) → drop first file ≡ drop first all → IsOrdered s → HasRecords key (take first file) s
    → WritesUnder key s t × HasRecords key (take next file) t

-- then all of them do
abbrev pub Writes : (key written : ℕ) (all : List Stored) → SpoolContents → SpoolContents → Type 0
Writes key written all s t =
    (file : List Stored) → drop written file ≡ drop written all → IsOrdered s → HasRecords key (take written file) s
    → WritesUnder key s t × HasRecords key file t

-- A row's place goes on, and the writer counts as many records. Nothing else of it changes.
pub record GoesForward {S : Type 0} (old new : NextRow) (w w' : SpoolWriter S) : Type 0 where
  pub key : new.key ≡ old.key
  pub place : old.place ≤ new.place
  pub counted : CountsMore (new.place - old.place) w w'
  pub others : w' ≡ record w { store = w'.store; waiting = w'.waiting }
