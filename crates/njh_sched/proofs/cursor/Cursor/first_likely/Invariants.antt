use Rattle.std.proofs.Common.{◌≤◌}
use Rattle.njh_sched.specs.code.FileCursor.{HasPassed, files_of, goes_of, index_of, other}
use Rattle.njh_sched.proofs.cursor.Cursor.first_likely.Given as goal

abbrev pub invariant-loop-index : goal.invariant-loop-index
invariant-loop-index l = record {
  passed : HasPassed (goes_of l.self) l.kind l.index (files_of l.self l.spool);
  others : HasPassed (goes_of l.self) (other l.kind) l.others (files_of l.self l.spool);
  onward : index_of l.kind l.self ≤ l.index;
}
