-- The whole files of a spool one after the other, each put back to its customer.
use Rattle.std.specs.Prelude.{◌≡◌, ◌⊎◌, ℕ, ◌<◌, ◌≤◌, ◌++◌, List, [], ◌∷◌, length, map, fold}
use Rattle.std.specs.Prelude.{Option, Some, None, option_map, slice_get, IsTrue, ⊤, All}
use Rattle.sqlite.specs.State.{State}
use Rattle.njh_hub.specs.WholeHub.{Part}
use Rattle.njh_spoolfile.specs.Kept.{File, Holds, SpoolContents, Whole, entry_of, file_of, whole_in, with_changed}
use Rattle.njh_spoolfile.specs.declared.kept.StoredFile.{StoredFile}
use Rattle.njh_spoolfile.specs.declared.kept.StoredRecord.{StoredRecord}
use Rattle.njh_keeper.specs.Opened.{hub_fault, hub_with, number_of}
use Rattle.njh_keeper.specs.Refusal.{Refusal, refusal_of}
use Rattle.njh_keeper.specs.SetAside.{all_tried, refusal, refusals, row_of, taken_up, tried}
use Rattle.njh_keeper.specs.SetAside.{whole_taken_up}
use Rattle.njh_keeper.specs.declared.fault.OpeningFault.{OpeningFault}
use Rattle.njh_keeper.specs.declared.fault.OpeningFault.TheVariants.{Memory, Store, File as Refused}
use Rattle.njh_keeper.specs.declared.fault.RefusedFile.{RefusedFile}
use Rattle.njh_keeper.specs.declared.restoring.Outcome.{Outcome}
use Rattle.njh_keeper.specs.declared.restoring.Outcome.TheVariants as outcome

-- each record fits into one of a hub
abbrev pub HaveRoom : List StoredRecord → Type 0
HaveRoom records = All (λ r. (r.srcb < 256) × (length r.bytes.items ≤ 256)) records

-- a hub with all of these whole files
abbrev pub hub_with_all : List (List ℕ) → List Part → List Whole → List Part
hub_with_all names parts ws = fold (hub_with names) parts ws

-- none of them is refused
abbrev pub NoneFails : List (List ℕ) → List Part → List Whole → Type 0
NoneFails names parts [] = ⊤
NoneFails names parts (w ∷ ws) = (hub_fault names parts w ≡ None) × NoneFails names (hub_with names parts w) ws

-- what is read of some files of a spool
abbrev pub wholes : SpoolContents → List StoredFile → List Whole
wholes spool files = map (λ f. whole_in spool (entry_of f)) files

-- ---- what becomes of one that is tried

-- it is no customer's of these names, or is put back, or fails so
abbrev pub ComesTo : List (List ℕ) → List Part → Whole → Outcome → Type 0
ComesTo names parts w outcome.Foreign = number_of names (taken_up w.file.customer) ≡ None
ComesTo names parts w outcome.Back =
    (c : ℕ) × (number_of names (taken_up w.file.customer) ≡ Some c)
    × (hub_fault names parts (whole_taken_up w) ≡ None)
ComesTo names parts w (outcome.Fails fault) =
    (c : ℕ) × (number_of names (taken_up w.file.customer) ≡ Some c)
    × (hub_fault names parts (whole_taken_up w) ≡ Some fault)

-- its row is this one now, which is written if it is another
abbrev pub IsWrittenAs : ℕ → (before now : File) → (s t : SpoolContents) → Type 0
IsWrittenAs id before now s t = (t ≡ with_changed id now s) ⊎ ((t ≡ s) × (now ≡ before))

-- so the row is left in what a connection shows
pub record LeavesRow (id : ℕ) (before now : File) (spool : SpoolContents) (at : State) : Type 0 where
  pub left : SpoolContents
  pub holds : Holds left at.now.trees
  pub written : IsWrittenAs id before now spool left

-- The file was tried: the hub has it or hasn't, what is told of it if it hasn't, and its row.
pub record IsTried (names : List (List ℕ)) (before after : List Part) (file : StoredFile) (told : Option RefusedFile)
    (spool : SpoolContents) (at : State) : Type 0 where
  pub hub : after ≡ hub_with names before (tried names before (whole_in spool (entry_of file)))
  pub told_is : option_map refusal_of told ≡ refusal names before (whole_in spool (entry_of file))
  pub row : LeavesRow file.id (file_of file.file) (tried names before (whole_in spool (entry_of file))).file spool at

-- the first rows as they were tried, and the others
abbrev pub spool_midway : List (List ℕ) → List Part → SpoolContents → (done left : List StoredFile) → SpoolContents
spool_midway names parts spool done left = record spool {
  files = map row_of (all_tried names parts (wholes spool done)) ++ map entry_of left;
}

-- so many of these files were tried
pub record AreTried (names : List (List ℕ)) (before after : List Part) (done left : List StoredFile)
    (told : List Refusal) (spool : SpoolContents) (at : State) : Type 0 where
  pub hub : after ≡ hub_with_all names before (all_tried names before (wholes spool done))
  pub told_are : told ≡ refusals names before (wholes spool done)
  pub holds : Holds (spool_midway names before spool done left) at.now.trees

-- what was committed stays
pub record KeepsCommit (old new : State) : Type 0 where
  pub is_open : IsTrue old.is_open → IsTrue new.is_open
  pub committed : new.committed ≡ old.committed

-- ---- where it stops

-- no whole file is told but the one that was tried
abbrev pub StopsAt : Option Refusal → OpeningFault → Type 0
StopsAt fails Memory = ⊤
StopsAt fails (Store error) = ⊤
StopsAt fails (Refused told) = fails ≡ Some (refusal_of told)

-- none but the first that fails
abbrev pub StopsOn : List (List ℕ) → List Part → List Whole → OpeningFault → Type 0
StopsOn names parts ws fault = StopsAt (slice_get (refusals names parts ws) 0) fault
