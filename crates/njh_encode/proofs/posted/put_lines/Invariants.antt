use Rattle.std.proofs.Common.{length}
use Rattle.njh_encode.proofs.PostedLaws.{IsPutUpTo}
use Rattle.njh_encode.proofs.posted.put_lines.Given as goal

-- what was put of the text so far
abbrev pub invariant-loop-line : goal.invariant-loop-line
invariant-loop-line l = IsPutUpTo l.fn.name l.fn.text l.fn.packing l.fn.script.items l.left l.packing l.script.items

abbrev pub decreases-loop-line : goal.decreases-loop-line
decreases-loop-line l = length l.left
