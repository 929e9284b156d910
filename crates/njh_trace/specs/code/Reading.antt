-- A trace that comes in pieces.
use Rattle.std.specs.Prelude.{◌≡◌, ℕ, false, Bool, List, [], ◌∷◌, ◌++◌}
use Rattle.std.specs.List.{list_any}
use Rattle.njh_trace.specs.Sources.{SourceView}
use Rattle.njh_io.specs.Lines.{is_long_line, lines_from}
use Rattle.njh_trace.specs.Trace.{lines_told, sources_behind}

-- what is kept from piece to piece: the sources so far, and what has come of a line
pub record Progress : Type 0 where
  pub sources : List SourceView
  pub front : List ℕ

abbrev pub sources_behind_lines : List SourceView → List (List ℕ) → List SourceView
sources_behind_lines sources [] = sources
sources_behind_lines sources (line ∷ lines) = sources_behind_lines (sources_behind sources line) lines

-- what is still told after a progress of a text
abbrev pub told_behind : Bool → Progress → List ℕ → List ℕ
told_behind hex at text = lines_told hex at.sources (lines_from at.front text)

-- A piece ends these lines, whatever follows it: they were told, and none is too long.
pub record Takes (hex : Bool) (old : Progress) (piece told : List ℕ) (new : Progress) : Type 0 where
  pub done : List (List ℕ)
  pub lines : (more : List ℕ) → lines_from old.front (piece ++ more) ≡ done ++ lines_from new.front more
  pub short : list_any is_long_line done ≡ false
  pub told_is : told ≡ lines_told hex old.sources done
  pub sources_are : new.sources ≡ sources_behind_lines old.sources done
