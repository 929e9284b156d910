use Rattle.std.proofs.Common.{length}
use Rattle.njh_encode.proofs.ReadingLaws.{IsReadUpTo}
use Rattle.njh_encode.proofs.reading.Reading.take.Given as goal

-- what was read of the piece so far
abbrev pub invariant-loop-behind : goal.invariant-loop-behind
invariant-loop-behind g l =
    IsReadUpTo (g.L.Letters.texts l.fn.letters) l.fn.self l.fn.piece l.fn.script.items l.left l.script.items l.self

abbrev pub decreases-loop-behind : goal.decreases-loop-behind
decreases-loop-behind g l = length l.left
