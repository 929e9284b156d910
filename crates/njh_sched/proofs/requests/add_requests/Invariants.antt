use Rattle.std.proofs.Common.{◌≡◌, drop, map, slice_set}
use Rattle.njh_spool.specs.Spools.{spool_at}
use Rattle.njh_stream.specs.Sending.{goes_by}
use Rattle.njh_table.specs.TableFile.{entry_of}
use Rattle.njh_sched.specs.NextBlock.{StreamRequest, after_sources, filling, requests, streams}
use Rattle.njh_sched.specs.code.FileCursor.{GoesOn, first_file}
use Rattle.njh_sched.proofs.requests.add_requests.Given as goal

abbrev pub invariant-loop-place : goal.invariant-loop-place
invariant-loop-place g l = record {
  source : after_sources (goes_by (entry_of l.entry) l.fn.id.number) requests
      (filling l.initial.writer (g.L.Outgoing.outlet l.initial.line) (spool_at l.fn.id.customer l.initial.spool))
      ≡ after_sources (goes_by (entry_of l.entry) l.fn.id.number) (map StreamRequest (drop l.place streams))
      (filling l.writer (g.L.Outgoing.outlet l.line) (spool_at l.fn.id.customer l.spool));
  rest : g.L.Outgoing.rest l.line ≡ g.L.Outgoing.rest l.initial.line;
  spool : l.spool ≡ slice_set l.initial.spool l.fn.id.customer (spool_at l.fn.id.customer l.spool);
  cursor : GoesOn (first_file l.entry l.fn.id) l.cursor l.spool;
}
