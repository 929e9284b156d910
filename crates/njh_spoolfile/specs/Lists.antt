-- What the laws on the list of whole files ask.
use Rattle.std.specs.Prelude.{◌≢◌, ℕ, ◌==◌, Bool, List, filter}
use Rattle.std.specs.List.{AllByRecursion, list_any}
use Rattle.njh_spoolfile.specs.Kept.{File, SpoolContents, Whole, kept}

-- no whole file has its records under this key
abbrev pub IsFree : ℕ → SpoolContents → Type 0
IsFree key spool = AllByRecursion (λ e. e.1.key ≢ key) spool.files

-- the whole files of those customers, or of that kind, in the order of their arrival
abbrev pub kept_where : (File → Bool) → SpoolContents → List Whole
kept_where passes spool = filter (λ w. passes w.file) (kept spool)

-- a whole file has this number
abbrev pub has_file : ℕ → SpoolContents → Bool
has_file id spool = list_any (λ e. e.0 == id) spool.files
