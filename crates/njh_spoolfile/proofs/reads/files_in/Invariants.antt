use Rattle.std.proofs.Common.{◌≡◌, ℕ, List, map, take}
use Rattle.njh_spoolfile.specs.Kept.{File, file_shown, entry_of}
use Rattle.njh_spoolfile.proofs.reads.files_in.Given as goal

abbrev pub invariant-loop-row : goal.invariant-loop-row
invariant-loop-row l = (files : List (ℕ × File)) → l.rows ≡ map file_shown files
    → map entry_of l.stored.items ≡ map (λ e. e) (take l.row-index files)
