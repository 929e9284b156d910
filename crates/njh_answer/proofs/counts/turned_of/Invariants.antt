use Rattle.std.proofs.Common.{◌≡◌, take}
use Rattle.njh_answer.specs.Counts.{turned_of}
use Rattle.njh_answer.proofs.counts.turned_of.Given as goal

-- those of the lines so far
abbrev pub invariant-loop-line : goal.invariant-loop-line
invariant-loop-line l = l.turned ≡ turned_of l.customer (take l.line-index l.lines)
