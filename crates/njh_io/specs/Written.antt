-- What was written if not all of a text was.
use Rattle.std.specs.Prelude.{◌≡◌, ℕ, List, ◌++◌, Option}
use Rattle.std.specs.Io.KnownBytes.{Appends}

-- A beginning of this text came after what had been written, if that is known.
abbrev pub AppendsBeginning : (old new : Option (List ℕ)) (whole : List ℕ) → Type 0
AppendsBeginning old new whole = (text : List ℕ) × (rest : List ℕ) × (text ++ rest ≡ whole) × Appends old new text
