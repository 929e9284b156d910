-- What the calls of a writer do to a spool, and to what is next to be written.
use Rattle.std.specs.Prelude.{◌≡◌, ℕ, zero, suc, ◌+◌, ◌-◌, ◌<◌, ◌≤◌, ◌^◌, ◌==◌, ◌||◌, ◌⊎◌, min, max, nat_le, nat_lt}
use Rattle.std.specs.Prelude.{Bool, true, false, if◌then◌else◌, List, [], ◌∷◌, ◌++◌, fold, length, slice_index_or}
use Rattle.std.specs.Prelude.{slice_set}
use Rattle.std.specs.List.{AllByRecursion, list_any}
use Rattle.sqlite.specs.State.{State}
use Rattle.sqlite.specs.Tree.{Trees}
use Rattle.njh_spoolfile.specs.Kept.{Holds, SpoolContents, without_records}
use Rattle.njh_spoolfile.specs.CommitState.{CommitState, Stands}
use Rattle.njh_spoolfile.specs.declared.kept.StoredFile.{StoredFile}
use Rattle.njh_keeper.specs.code.Remembered.{keyed}
use Rattle.njh_keeper.specs.declared.own_files.Sweep.{Sweep}

-- A number is taken: the last of the free ones, or if none is free the first that was never taken.
abbrev pub IsTaken : (free : List ℕ) (next key : ℕ) (left : List ℕ) (behind : ℕ) → Type 0
IsTaken free next key left behind =
    ((free ≡ left ++ key ∷ []) × (behind ≡ next))
    ⊎ ((free ≡ []) × (left ≡ []) × (key ≡ next) × (behind ≡ next + 1) × (behind < 2 ^ 32))

-- so many records under a key are to be dropped, of those that a file may have
abbrev pub sweep_of : (key end : ℕ) → Sweep
sweep_of key end = record { key = key; next = 0; end = min end (2 ^ 23) }

-- the places of the records that are still to be dropped: from one on and before another
abbrev pub end_of : Sweep → ℕ
end_of sweep = min sweep.end (2 ^ 23)

abbrev pub first_of : Sweep → ℕ
first_of sweep = min sweep.next (end_of sweep)

-- how many those are, of one file that has left and of all
abbrev pub dead_in : Sweep → ℕ
dead_in sweep = end_of sweep - first_of sweep

abbrev pub sum_of : {X : Type 0} → (X → ℕ) → List X → ℕ
sum_of count [] = 0
sum_of count (x ∷ xs) = count x + sum_of count xs

abbrev pub dead_of : List Sweep → ℕ
dead_of sweeps = sum_of dead_in sweeps

-- of them so many at most are dropped, up to this place
abbrev pub behind_of : (most : ℕ) → Sweep → ℕ
behind_of most sweep = first_of sweep + min most (dead_in sweep)

abbrev pub without_swept : (most : ℕ) → Sweep → SpoolContents → SpoolContents
without_swept most sweep spool = without_records sweep.key (first_of sweep) (behind_of most sweep) spool

-- what is to be dropped then, and the key that is free if that is nothing
abbrev pub is_left : (most : ℕ) → Sweep → Bool
is_left most sweep = nat_lt (behind_of most sweep) (end_of sweep)

abbrev pub rest_of : (most : ℕ) → Sweep → Sweep
rest_of most sweep = record { key = sweep.key; next = behind_of most sweep; end = end_of sweep }

abbrev pub left_of : (most : ℕ) → Sweep → List Sweep
left_of most sweep = if is_left most sweep then rest_of most sweep ∷ [] else []

abbrev pub freed_by : (most : ℕ) → Sweep → List ℕ
freed_by most sweep = if is_left most sweep then [] else sweep.key ∷ []

-- whole files changed since the last commit, or 4,096 records were written or rows dropped
abbrev pub is_due : (is_changed : Bool) (waiting : ℕ) → Bool
is_due is_changed waiting = is_changed || nat_le 4096 waiting

-- ---- the opening

-- the first number, not below this one, after those of whole files, and after those that their records stand under
abbrev pub number_after : (greatest : ℕ) → (StoredFile → ℕ) → ℕ → List StoredFile → ℕ
number_after greatest number next files = fold (λ n f. max n (min (number f + 1) greatest)) next files

abbrev pub id_behind : ℕ → List StoredFile → ℕ
id_behind next files = number_after (2 ^ 63 - 1) (λ f. f.id) next files

abbrev pub key_behind : ℕ → List StoredFile → ℕ
key_behind next files = number_after (2 ^ 32 - 1) (λ f. f.file.key) next files

-- records of one of these files stand under this number
abbrev pub is_used : List StoredFile → ℕ → Bool
is_used files key = list_any (λ f. f.file.key == key) files

-- the numbers below this one but for those that pass
abbrev pub numbers_but : (ℕ → Bool) → ℕ → List ℕ
numbers_but passes zero = []
numbers_but passes (suc key) = if passes key then numbers_but passes key else numbers_but passes key ++ key ∷ []

-- the numbers that files' records stand under are marked
abbrev pub is_marked : List Bool → ℕ → Bool
is_marked marks key = slice_index_or marks key false

abbrev pub unmarked : List Bool → ℕ → List ℕ
unmarked marks end = numbers_but (is_marked marks) end

abbrev pub marked_by : List Bool → List StoredFile → List Bool
marked_by marks files = fold (λ m f. slice_set m f.file.key true) marks files

-- The numbers under which all is dropped: those that no file's records stand under, up to 64 after the next one. Of
-- them those below that one are free. If more than 200,000 were taken none is looked for.
abbrev pub emptied_at : List StoredFile → ℕ → List ℕ
emptied_at files next = if nat_lt 200000 next then [] else numbers_but (is_used files) (next + 64)

abbrev pub free_at : List StoredFile → ℕ → List ℕ
free_at files next = if nat_lt 200000 next then [] else numbers_but (is_used files) next

-- the records of each file stand under a number below this one, if no more than 200,000 were taken
abbrev pub AreBelow : List StoredFile → ℕ → Type 0
AreBelow files next = next ≤ 200000 → AllByRecursion (λ f. f.file.key < next) files

-- a number if it is below another one
abbrev pub below : (end key : ℕ) → List ℕ
below end key = if nat_lt key end then key ∷ [] else []

-- nothing stands under these numbers any more
abbrev pub without_keys : List ℕ → SpoolContents → SpoolContents
without_keys keys spool = fold (λ s key. without_records key 0 (2 ^ 23) s) spool keys

-- no file's records stand under any of these
abbrev pub AreUnused : List StoredFile → List ℕ → Type 0
AreUnused files keys = (n : ℕ) → is_used files n ≡ true → keyed (λ k. k) n keys ≡ 0

-- these trees hold another spool than the connection shows
abbrev pub HoldChanged : (SpoolContents → SpoolContents) → State → Trees → Type 0
HoldChanged change at trees = (s : CommitState) → Stands s at → Holds (change s.now) trees

-- nothing stands in them under some numbers that no file's records stand under
abbrev pub LackUnused : List StoredFile → State → Trees → Type 0
LackUnused files at trees = (keys : List ℕ) × AreUnused files keys × HoldChanged (without_keys keys) at trees

-- the spool is another one, whatever was committed
abbrev pub ShowsNow : (SpoolContents → SpoolContents) → CommitState → State → Type 0
ShowsNow change s at = (kept : SpoolContents) × Stands (record { now = change s.now; kept = kept }) at

-- It is, and where no more than so many committed rows were dropped before, no more than so many are now.
pub record Drops (change : SpoolContents → SpoolContents) (waited waiting : ℕ) (s : CommitState) (at : State) : Type 0
  where
    pub kept : SpoolContents
    pub stands : Stands (record { now = change s.now; kept = kept }) at
    pub few : length s.kept.records ≤ length s.now.records + waited
        → length kept.records ≤ length (change s.now).records + waiting

-- another one, and it is committed
abbrev pub shows_kept : (SpoolContents → SpoolContents) → CommitState → CommitState
shows_kept change s = record { now = change s.now; kept = change s.now }
