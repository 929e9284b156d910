-- What a trace says in words. A trace is the record of what went over the lines of a hub, one piece of bytes a line.
use Rattle.std.specs.Prelude.{◌≡◌, ℕ, ◌<◌, Bool, true, false, List, [], ◌∷◌, ◌++◌, length, flat_map}
use Rattle.std.specs.Prelude.{if◌then◌else◌, Some, None}
use Rattle.std.specs.List.{list_any}
use Rattle.hex.specs.Hex.{encode_lower, IsBytes}
use Rattle.njh_io.specs.Lines.{is_long_line, lines_of}
use Rattle.njh_bisync.specs.Frames.{Received}
use Rattle.njh_bisync.specs.Reading.{Nothing}
use Rattle.njh_bisync.specs.ByteSteps.{frames_after, rest_after}
use Rattle.njh_decode.specs.Frames.{frame_lines}
use Rattle.njh_trace.specs.Pieces.{PieceView, is_name, is_script_word, mark_out, piece_in, signalled}
use Rattle.njh_trace.specs.Sources.{SourceView, rest_of, sources_with, sources_without}

-- a line of the trace as it is
abbrev pub line_as_it_is : List ℕ → List ℕ
line_as_it_is line = line ++ 10 ∷ []

-- what frames say, each after the mark of its source
abbrev pub frames_told : Bool → List ℕ → List Received → List ℕ
frames_told hex mark frames = flat_map (λ frame. mark ++ frame_lines hex frame) frames

-- of a line that gives bytes: the line itself if hex is wanted, and what each frame says that ends in these bytes
abbrev pub piece_told : Bool → List ℕ → List SourceView → PieceView → List ℕ
piece_told hex line sources piece =
    (if hex then line_as_it_is line else []) ++ frames_told hex piece.mark
    (frames_after (rest_of piece.mark sources) piece.bytes)

-- what a line says
unfoldable pub line_told : Bool → List SourceView → List ℕ → List ℕ
line_told hex sources line =
    elim (piece_in line) [ Some piece ↦ piece_told hex line sources piece | None ↦ line_as_it_is line ]

-- the sources after a line
unfoldable pub sources_behind : List SourceView → List ℕ → List SourceView
sources_behind sources line =
    elim (piece_in line) [
      | Some piece ↦ sources_with piece sources
      | None ↦ sources_without (signalled line) sources
    ]

-- what lines say, one after the other
abbrev pub lines_told : Bool → List SourceView → List (List ℕ) → List ℕ
lines_told hex sources [] = []
lines_told hex sources (line ∷ lines) =
    line_told hex sources line ++ lines_told hex (sources_behind sources line) lines

-- what a trace says
abbrev pub trace_told : Bool → List ℕ → List ℕ
trace_told hex text = lines_told hex [] (lines_of text)

-- whether a line of a text is too long
abbrev pub has_long_line : List ℕ → Bool
has_long_line text = list_any is_long_line (lines_of text)

-- the line that is printed of a frame which the hub sends on a line of this name
abbrev pub sent_line : List ℕ → List ℕ → List ℕ
sent_line name frame = name ++ 32 ∷ [] ++ encode_lower frame

-- what such a line says alone
abbrev pub sent_told : Bool → List ℕ → List ℕ → List ℕ
sent_told hex name frame =
    (if hex then line_as_it_is (sent_line name frame) else []) ++ frames_told hex (mark_out name)
    (frames_after Nothing frame)

-- A frame of a line of the hub as it is sent: the line has a name that begins no line of a script, and the bytes are a
-- whole frame, or more than one.
pub record IsSent (name frame : List ℕ) : Type 0 where
  pub named : is_name name ≡ true
  pub no_word : is_script_word name ≡ false
  pub bytes : IsBytes frame
  pub some : 0 < length frame
  pub whole : rest_after Nothing frame ≡ Nothing

-- the text that is printed of frames, each with the name of its line
abbrev pub sent_text : List (List ℕ × List ℕ) → List ℕ
sent_text sent = flat_map (λ s. line_as_it_is (sent_line s.0 s.1)) sent
