-- Calls of `feed` and `reset` on one deframer, one after another.
use Rattle.std.specs.Prelude.{ℕ, List, [], ◌∷◌, ◌++◌, take}
use Rattle.njh_bisync.specs.Frames.{Received}
use Rattle.njh_bisync.specs.Reading.{Rest, Nothing, frame_list}
use Rattle.njh_bisync.specs.ByteSteps.{feed_outcome}

pub data Call : Type 0 where
  Feed : List ℕ → Call
  Reset : Call

-- the bytes that they take: each call of `feed` up to the end of its piece's first frame, or the whole piece
abbrev pub taken_by : Rest → List Call → List ℕ
taken_by rest [] = []
taken_by rest (Feed piece ∷ calls) =
    take (feed_outcome rest piece).taken piece ++ taken_by (feed_outcome rest piece).rest calls
taken_by rest (Reset ∷ calls) = taken_by Nothing calls

-- the frames that they give
abbrev pub given_by : Rest → List Call → List Received
given_by rest [] = []
given_by rest (Feed piece ∷ calls) =
    frame_list (feed_outcome rest piece).frame ++ given_by (feed_outcome rest piece).rest calls
given_by rest (Reset ∷ calls) = given_by Nothing calls

-- the rest that they leave
abbrev pub left_by : Rest → List Call → Rest
left_by rest [] = rest
left_by rest (Feed piece ∷ calls) = left_by (feed_outcome rest piece).rest calls
left_by rest (Reset ∷ calls) = left_by Nothing calls
