use Rattle.std.proofs.Common.{◌≡◌, ◌++◌, length}
use Rattle.njh_record.specs.Writing.{spelling_of}
use Rattle.njh_record.proofs.writing.add_spelling.Given as goal

abbrev pub invariant-loop-rest : goal.invariant-loop-rest
invariant-loop-rest g l = l.out.items ++ spelling_of l.rest ≡ l.initial.out.items ++ spelling_of l.contents

abbrev pub decreases-loop-rest : goal.decreases-loop-rest
decreases-loop-rest g l = length l.rest
