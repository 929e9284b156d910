-- Whether whole files of a spool file have their records under numbers of their own.
use Rattle.std.specs.Prelude.{ℕ, ◌+◌, ◌-◌, ◌<◌, ◌≤◌, ◌^◌, ◌||◌, nat_le, nat_lt, Bool, true, false, if◌then◌else◌}
use Rattle.std.specs.Prelude.{List, [], ◌∷◌}
use Rattle.std.specs.List.{AllByRecursion}
use Rattle.njh_spoolfile.specs.declared.kept.StoredFile.{StoredFile}
use Rattle.njh_keeper.specs.code.Remembered.{keyed}

-- each is above those before it, the first one isn't below this one, and none is the greatest
abbrev pub rises : ℕ → List ℕ → Bool
rises least [] = true
rises least (key ∷ keys) = if nat_lt key least || nat_le (2 ^ 32 - 1) key then false else rises (key + 1) keys

-- no two files have their records under one number, and none has them under the greatest one
pub record AreFilesApart (files : List StoredFile) : Type 0 where
  pub once : (n : ℕ) → keyed (λ f. f.file.key) n files ≤ 1
  pub low : AllByRecursion (λ f. f.file.key < 2 ^ 32 - 1) files

-- no row has the greatest number
abbrev pub have_low_ids : List StoredFile → Bool
have_low_ids [] = true
have_low_ids (f ∷ fs) = if nat_le (2 ^ 63 - 1) f.id then false else have_low_ids fs
