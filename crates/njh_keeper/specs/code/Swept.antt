-- What is dropped in a round of the records of files that have left.
use Rattle.std.specs.Prelude.{◌≡◌, ◌⊎◌, ℕ, ◌+◌, ◌-◌, ◌<◌, ◌≤◌, ◌^◌, List, [], ◌∷◌, length, get_or, min, set}
use Rattle.std.specs.List.{AllByRecursion}
use Rattle.njh_keeper.specs.declared.own_files.OwnFiles.{OwnFiles}
use Rattle.njh_keeper.specs.code.Remembered.{OwnMemory, Sweep}

-- whether a customer has files that have left, whose records are still to be dropped
abbrev pub HasSweeps : OwnFiles → Type 0
HasSweeps own = 0 < length own.sweeps.items

abbrev pub HasNoSweeps : OwnFiles → Type 0
HasNoSweeps own = own.sweeps.items ≡ []

-- at how many places they stand, of one such file and of all
abbrev pub places_in : Sweep → ℕ
places_in s = min s.end (2 ^ 23) - min s.next (min s.end (2 ^ 23))

abbrev pub places_of : List Sweep → ℕ
places_of [] = 0
places_of (s ∷ sweeps) = places_in s + places_of sweeps

-- No customer has any; or of one that has the records at 512 places are dropped, or all, and nothing else changes.
pub data IsSwept (before now : List OwnMemory) : Type 0 where
  nothing : AllByRecursion (λ m. m.own.sweeps ≡ []) before → now ≡ before → IsSwept before now
  of_one : (c : ℕ) (m m' : OwnMemory) → c < length before → m ≡ get_or before c m → 0 < length m.own.sweeps
      → now ≡ set before c m' → m' ≡ record m { own = record m.own { sweeps = m'.own.sweeps } }
      → (m'.own.sweeps ≡ []) ⊎ (places_of m'.own.sweeps + 512 ≤ places_of m.own.sweeps) → IsSwept before now
