use Rattle.std.proofs.Common.{◌-◌}
use Rattle.njh_sched.specs.code.FileCursor.{GoesOn, index_of}
use Rattle.njh_sched.proofs.cursor.Cursor.oldest.Given as goal

abbrev pub invariant-loop-kind : goal.invariant-loop-kind
invariant-loop-kind l = GoesOn l.initial.self l.self l.spool

abbrev pub decreases-loop-kind : goal.decreases-loop-kind
decreases-loop-kind l = l.files - index_of l.kind l.self
