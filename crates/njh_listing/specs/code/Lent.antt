-- Files as a list lends them.
use Rattle.std.specs.Prelude.{ℕ, List, map}
use Rattle.std.specs.Borrow.{Bor}
use Rattle.njh_spoolfile.specs.Kept.{File, entry_of}
use Rattle.njh_spoolfile.specs.declared.kept.StoredFile.{StoredFile}

abbrev pub entries_of : List (Bor StoredFile) → List (ℕ × File)
entries_of list = map (λ s. entry_of s.now) list
