-- Where bytes come from: the lines of the hub, each in its two directions, and hex digits that are alone. Of each
-- source a trace keeps what has come of a frame that isn't whole.
use Rattle.std.specs.Prelude.{ℕ, List, [], ◌∷◌, ◌++◌, take, slice_get, slice_set, position, map}
use Rattle.std.specs.Prelude.{if◌then◌else◌, Option, Some, None, bytes_eq}
use Rattle.njh_bisync.specs.Reading.{Rest, Nothing}
use Rattle.njh_bisync.specs.ByteSteps.{rest_after}
use Rattle.njh_trace.specs.Pieces.{PieceView, mark_in, mark_out}

-- a source by its mark, with the rest of its bytes so far
pub record SourceView : Type 0 where
  pub mark : List ℕ
  pub rest : Rest

-- how many sources are kept: those that a hub's 256 lines are in both directions
abbrev pub max_sources : ℕ
max_sources = 512

abbrev pub place_of : List ℕ → List SourceView → Option ℕ
place_of mark sources = position (λ s. bytes_eq s.mark mark) sources

-- what has come of a frame of this source that isn't whole; nothing if the source is new
abbrev pub rest_at : List SourceView → Option ℕ → Rest
rest_at sources None = Nothing
rest_at sources (Some place) = elim (slice_get sources place) [ Some s ↦ s.rest | None ↦ Nothing ]

abbrev pub rest_of : List ℕ → List SourceView → Rest
rest_of mark sources = rest_at sources (place_of mark sources)

-- the sources with this one at a place, or after them if it is new and there is room
abbrev pub sources_at : SourceView → List SourceView → Option ℕ → List SourceView
sources_at source sources (Some place) = slice_set sources place source
sources_at source sources None = take max_sources (sources ++ source ∷ [])

-- the sources when bytes of one have come
unfoldable pub sources_with : PieceView → List SourceView → List SourceView
sources_with piece sources =
    let rest = rest_after (rest_of piece.mark sources) piece.bytes in
    sources_at (record { mark = piece.mark; rest = rest }) sources (place_of piece.mark sources)

-- what is not whole of the sources of a line of the hub is dropped
abbrev pub dropped_at : List ℕ → SourceView → SourceView
dropped_at mark s = if bytes_eq s.mark mark then record s { rest = Nothing } else s

unfoldable pub sources_without : Option (List ℕ) → List SourceView → List SourceView
sources_without None sources = sources
sources_without (Some name) sources = map (dropped_at (mark_out name)) (map (dropped_at (mark_in name)) sources)
