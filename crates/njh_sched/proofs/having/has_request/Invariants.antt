use Rattle.std.proofs.Common.{◌≡◌, drop}
use Rattle.std.specs.List.{list_any}
use Rattle.njh_spool.specs.Spools.{spool_at}
use Rattle.njh_stream.specs.Sending.{goes_by}
use Rattle.njh_table.specs.TableFile.{entry_of}
use Rattle.njh_sched.specs.NextBlock.{streams}
use Rattle.njh_sched.specs.code.FileCursor.{GoesOn, first_file}
use Rattle.njh_sched.specs.code.Having.{has_file_for, has_request}
use Rattle.njh_sched.proofs.having.has_request.Given as goal

abbrev pub invariant-loop-place : goal.invariant-loop-place
invariant-loop-place g l = record {
  none : has_request (goes_by (entry_of l.entry) l.fn.id.number) (g.L.Outgoing.outlet l.line)
      (spool_at l.fn.id.customer l.spool)
      ≡ list_any (has_file_for (goes_by (entry_of l.entry) l.fn.id.number) (g.L.Outgoing.outlet l.line)
      (spool_at l.fn.id.customer l.spool)) (drop l.place streams);
  cursor : GoesOn (first_file l.entry l.fn.id) l.cursor l.spool;
}
