-- How many records of a customer stand in a spool file, by what is remembered of its files, beside how many a writer
-- counts.
use Rattle.std.specs.Prelude.{ℕ, ◌+◌, ◌-◌, ◌≤◌, ◌^◌, min, List}
use Rattle.njh_keeper.specs.declared.own_files.KeptPartial.{KeptPartial}
use Rattle.njh_keeper.specs.declared.own_files.KeptWhole.{KeptWhole}
use Rattle.njh_keeper.specs.declared.own_files.OwnFiles.{OwnFiles}
use Rattle.njh_keeper.specs.declared.own_files.Sweep.{Sweep}
use Rattle.njh_keeper.specs.declared.writer.SpoolWriter.{SpoolWriter}
use Rattle.njh_keeper.specs.code.Writing.{dead_of, sum_of}

-- of a file that has so many records, as far as it has places
abbrev pub rows_for : (records : ℕ) → ℕ
rows_for records = min records (2 ^ 23)

abbrev pub rows_of_whole : KeptWhole → ℕ
rows_of_whole k = rows_for k.records

abbrev pub rows_of_partial : KeptPartial → ℕ
rows_of_partial p = rows_for p.written

-- of these whole files, of these others, and of these that have left
abbrev pub rows_in : List KeptWhole → List KeptPartial → List Sweep → ℕ
rows_in whole partial sweeps = sum_of rows_of_whole whole + sum_of rows_of_partial partial + dead_of sweeps

-- of all of a customer's
abbrev pub rows_of : OwnFiles → ℕ
rows_of own = rows_in own.whole.items own.partial.items own.sweeps.items

-- The writer counts so many records more at least. It doesn't count on from 2^32 - 1.
abbrev pub CountsMore : {S : Type 0} → (more : ℕ) → SpoolWriter S → SpoolWriter S → Type 0
CountsMore more w w' = min (w.waiting + more) (2 ^ 32 - 1) ≤ w'.waiting

-- No more come to stand there than the writer counts.
abbrev pub Grows : {S : Type 0} → SpoolWriter S → OwnFiles → SpoolWriter S → OwnFiles → Type 0
Grows w own w' own' = CountsMore (rows_of own' - rows_of own) w w'
