use Rattle.std.proofs.Common.{◌≡◌, ◌+◌, length}
use Rattle.njh_record.specs.Writing.{spelling_of}
use Rattle.njh_record.proofs.writing.spelled_len.Given as goal

abbrev pub invariant-loop-rest : goal.invariant-loop-rest
invariant-loop-rest l = l.len + length (spelling_of l.rest) ≡ 1 + length (spelling_of l.contents)

abbrev pub decreases-loop-rest : goal.decreases-loop-rest
decreases-loop-rest l = length l.rest
