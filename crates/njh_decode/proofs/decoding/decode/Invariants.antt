use Rattle.std.proofs.Common.{◌≡◌, ◌++◌, length}
use Rattle.njh_bisync.specs.ByteSteps.{frames_after, rest_after}
use Rattle.njh_decode.specs.Frames.{lines_of}
use Rattle.njh_decode.proofs.decoding.decode.Given as goal

-- the lines so far, and then those of the rest of the piece, are those of the whole
abbrev pub invariant-loop-left : goal.invariant-loop-left
invariant-loop-left l = record {
  lines : l.lines.items ++ lines_of l.fn.hex (frames_after l.deframer l.left)
      ≡ l.fn.lines.items ++ lines_of l.fn.hex (frames_after l.fn.deframer l.fn.piece);
  rest : rest_after l.deframer l.left ≡ rest_after l.fn.deframer l.fn.piece;
}

abbrev pub decreases-loop-left : goal.decreases-loop-left
decreases-loop-left l = length l.left
