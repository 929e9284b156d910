use Rattle.std.proofs.Common.{◌≡◌, ◌++◌, length}
use Rattle.njh_bisync.specs.ByteSteps.{frames_after, rest_after}
use Rattle.njh_trace.specs.Trace.{frames_told}
use Rattle.njh_trace.proofs.frames.put_frames.Given as goal

-- what was told so far, and then of the rest of the piece, is what the whole says
abbrev pub invariant-loop-left : goal.invariant-loop-left
invariant-loop-left l = record {
  lines : l.lines.items ++ frames_told l.fn.hex l.fn.mark (frames_after l.deframer l.left)
      ≡ l.fn.lines.items ++ frames_told l.fn.hex l.fn.mark (frames_after l.fn.deframer l.fn.piece);
  rest : rest_after l.deframer l.left ≡ rest_after l.fn.deframer l.fn.piece;
}

abbrev pub decreases-loop-left : goal.decreases-loop-left
decreases-loop-left l = length l.left
