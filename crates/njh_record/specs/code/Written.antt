-- What an item spells of some bytes, and what a literal passes over.
use Rattle.std.specs.Prelude.{◌≡◌, ◌≢◌, ◌<◌, ◌≤◌, ◌+◌, ℕ, List, ◌++◌, length, take, drop, slice_index}
use Rattle.njh_record.specs.Spelling.{Item, IsItem, added_bytes}
use Rattle.njh_record.specs.Writing.{before_run}

-- an item spells some bytes at the front
pub record SpellsFront (bytes : List ℕ) (item : Item) : Type 0 where
  pub fits : IsItem item
  pub some : 0 < length (added_bytes item)
  pub within : length (added_bytes item) ≤ length bytes
  pub front : added_bytes item ++ drop (length (added_bytes item)) bytes ≡ bytes

-- none of the first n bytes equals the one after it
abbrev pub AreApart : ℕ → List ℕ → Type 0
AreApart n bytes = (k : ℕ) → k < n → slice_index bytes k ≢ slice_index bytes (k + 1)

-- what comes before the first run begins with so many bytes, none of which begins a run
abbrev pub NoRunBefore : List ℕ → ℕ → Type 0
NoRunBefore bytes place = before_run bytes ≡ take place bytes ++ before_run (drop place bytes)
