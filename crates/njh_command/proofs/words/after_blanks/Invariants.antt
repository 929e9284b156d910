use Rattle.std.proofs.Common.{◌≡◌, length}
use Rattle.njh_command.specs.Words.{words}
use Rattle.njh_command.proofs.words.after_blanks.Given as goal

abbrev pub invariant-loop-rest : goal.invariant-loop-rest
invariant-loop-rest l = words l.rest ≡ words l.bytes

abbrev pub decreases-loop-rest : goal.decreases-loop-rest
decreases-loop-rest l = length l.rest
