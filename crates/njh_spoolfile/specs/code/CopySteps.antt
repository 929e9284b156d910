-- How whole files are copied, step by step.
use Rattle.std.specs.Prelude.{◌≡◌, ◌≢◌, ◌⊎◌, ℕ, ◌+◌, ◌<◌, ◌≤◌, ◌^◌, List, [], ◌++◌, length, map, filter}
use Rattle.std.specs.Prelude.{Option, ⊤}
use Rattle.sqlite.specs.State.{State}
use Rattle.sqlite_trees.specs.Tree.{IsAscending}
use Rattle.njh_spoolfile.specs.Kept.{File, Record, SpoolContents, Whole, Holds, as_stands, kept, records_of}
use Rattle.njh_spoolfile.specs.Kept.{whole_in}
use Rattle.njh_spoolfile.specs.Copies.{AreBelow, HaveControlBytes, is_asked, numbered}
use Rattle.njh_spoolfile.specs.declared.copying.CopyFault.{CopyFault}
use Rattle.njh_spoolfile.specs.declared.copying.Numbers.{Numbers}
use Rattle.njh_spoolfile.specs.declared.copying.CopyFault.TheVariants.{Database, Damaged, Taken, Full}

-- Another spool stands there, and P holds of both.
pub record LeadsTo (P : SpoolContents → SpoolContents → Type 0) (old new : State) : Type 0 where
  pub leads : (s : SpoolContents) → Holds s old.now.trees → (t : SpoolContents) × Holds t new.now.trees × P s t

-- these are the records under this key, and all else is as it was
pub record Fills (key : ℕ) (wanted : List (ℕ × ℕ × List ℕ)) (s t : SpoolContents) : Type 0 where
  pub files : t.files ≡ s.files
  pub others : (k : ℕ) → k ≢ key → records_of k t ≡ records_of k s
  pub records : map as_stands (records_of key t) ≡ wanted

-- records in the order of their places
abbrev pub Rising : List (ℕ × ℕ × List ℕ) → Type 0
Rising = IsAscending (λ a b. a.0 < b.0)

-- if nothing stands under this key, some of these records come to stand there, which are in the order of their places
abbrev pub FillsEmpty : (key : ℕ) → (all some : List (ℕ × ℕ × List ℕ)) → SpoolContents → SpoolContents → Type 0
FillsEmpty key all some s t = records_of key s ≡ [] → Rising all → Fills key some s t

-- a record's place, SRCB and bytes under this key
abbrev pub record_under : ℕ → ℕ × ℕ × List ℕ → Record
record_under key r = record { key = key; place = r.0; srcb = r.1; bytes = r.2 }

-- the files that are asked for
abbrev pub asked_of : Option (List ℕ) → List (ℕ × File) → List (ℕ × File)
asked_of customer es = filter (λ e. is_asked customer e.1) es

-- these come behind those that are there, under the numbers from these on
abbrev pub AddsAsked : (id key : ℕ) → List Whole → SpoolContents → SpoolContents → Type 0
AddsAsked id key ws s t = AreBelow id key (kept s) → kept t ≡ kept s ++ numbered id key ws

-- these files of a spool do
abbrev pub Adds : (id key : ℕ) → (from : SpoolContents) → List (ℕ × File) → SpoolContents → SpoolContents → Type 0
Adds id key from es = AddsAsked id key (map (whole_in from) es)

-- the numbers behind those of so many files
abbrev pub IsBehind : Numbers → List (ℕ × File) → Numbers → Type 0
IsBehind first es after = (after.id ≡ first.id + length es) × (after.key ≡ first.key + length es)

-- there are no numbers for so many files from these on
abbrev pub LacksRoom : Numbers → ℕ → Type 0
LacksRoom first count = (2 ^ 63 ≤ first.id + count) ⊎ (2 ^ 32 ≤ first.key + count)

-- what a fault says once none of the files that are there is asked for
abbrev pub FitsStep : (full damaged : Type 0) → CopyFault → Type 0
FitsStep full damaged (Database error) = ⊤
FitsStep full damaged Damaged = damaged
FitsStep full damaged Taken = ⊥
FitsStep full damaged Full = full

-- what one says of these files of a spool
abbrev pub FitsFiles : Numbers → (from : SpoolContents) → List (ℕ × File) → CopyFault → Type 0
FitsFiles first from es = FitsStep (LacksRoom first (length es)) (¬ HaveControlBytes (map (whole_in from) es))
