use Rattle.std.proofs.Common.{length}
use Rattle.njh_trace.proofs.ReadingLaws.{IsReadUpTo}
use Rattle.njh_trace.proofs.reading.Reading.take.Given as goal

-- what was read of the piece so far
abbrev pub invariant-loop-behind : goal.invariant-loop-behind
invariant-loop-behind l = IsReadUpTo l.fn.hex l.fn.self l.fn.piece l.fn.lines.items l.left l.lines.items l.self

abbrev pub decreases-loop-behind : goal.decreases-loop-behind
decreases-loop-behind l = length l.left
