-- A log, and what it does with a line.
use Rattle.std.specs.Prelude.{◌≡◌, ℕ, zero, suc, ◌+◌, ◌<◌, ◌≤◌, min, List, [], ◌∷◌, ◌++◌, length, Option, IsSome}
use Rattle.std.specs.Prelude.{option_and_then}
use Rattle.std.specs.Io.KnownBytes.{Appends, append_known}

-- A log: its writer, if it has one; what is left of the line that goes out; and how many lines were dropped of which no
-- line told yet.
pub record Logging (L : Type 0) : Type 0 where
  pub writer : Option L
  pub left : List ℕ
  pub dropped : ℕ

-- nothing went out yet
abbrev pub log_onto : {L : Type 0} → Option L → Logging L
log_onto writer = record { writer = writer; left = []; dropped = 0 }

-- one more line was dropped
abbrev pub one_dropped : {L : Type 0} → Logging L → Logging L
one_dropped log = record log { dropped = min (log.dropped + 1) 18446744073709551615 }

-- a line ends
abbrev pub IsLine : List ℕ → Type 0
IsLine line = (text : List ℕ) × (line ≡ text ++ 10 ∷ [])

-- what tells that so many lines were dropped: a line, if any was
abbrev pub IsTelling : (dropped : ℕ) → List ℕ → Type 0
IsTelling zero telling = telling ≡ []
IsTelling (suc dropped) telling = IsLine telling

-- what the writer holds, if that is known, and then what is left of the line that goes out
abbrev pub bytes_out : {L : Type 0} → (contents : L → Option (List ℕ)) → Logging L → Option (List ℕ)
bytes_out contents log = append_known (option_and_then contents log.writer) log.left

-- behind what went out and what was left, these bytes went out or are left
abbrev pub GoesOut : {L : Type 0} → (contents : L → Option (List ℕ)) → (old new : Logging L) → List ℕ → Type 0
GoesOut contents old new bytes = IsSome new.writer × Appends (bytes_out contents old) (bytes_out contents new) bytes

-- a line goes out behind these bytes, in whole or in part: less than it is left
pub record Begins {L : Type 0} (contents : L → Option (List ℕ)) (old new : Logging L) (before line : List ℕ)
    : Type 0 where
  pub is_line : IsLine line
  pub out : GoesOut contents old new (before ++ line)
  pub begun : length new.left < length line

-- What a log that has a writer does with a line.
pub data IsLogged {L : Type 0} (contents : L → Option (List ℕ)) (old new : Logging L) : Type 0 where
  -- it goes out, behind what tells of those that were dropped
  goes_out : (telling line : List ℕ) → IsTelling old.dropped telling → Begins contents old new telling line
      → new.dropped ≡ 0 → IsLogged contents old new
  -- what tells of those goes out, and it is dropped
  only_telling : (telling : List ℕ) → 0 < old.dropped → Begins contents old new [] telling → new.dropped ≡ 1
      → IsLogged contents old new
  -- it is dropped, and no line goes out
  is_dropped : GoesOut contents old new [] → length new.left ≤ length old.left
      → new.dropped ≡ (one_dropped old).dropped → IsLogged contents old new
