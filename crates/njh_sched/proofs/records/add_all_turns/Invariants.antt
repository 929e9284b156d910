use Rattle.std.proofs.Common.{◌≡◌, ◌+◌, Bool}
use Rattle.njh_spool.specs.CustomerSpool.{WholeFile}
use Rattle.njh_spool.specs.Spools.{spool_at}
use Rattle.njh_sched.specs.NextBlock.{after_sources, filling, turns}
use Rattle.njh_sched.specs.code.Filling.{room_of}
use Rattle.njh_sched.proofs.records.add_all_turns.Given as goal

abbrev pub invariant-loop-stream : goal.invariant-loop-stream
invariant-loop-stream g l = record {
  source : (goes : WholeFile → Bool)
      → after_sources goes (turns (room_of l.initial.writer + 1))
      (filling l.initial.writer (g.L.Outgoing.outlet l.initial.line) (spool_at l.customer l.initial.spool))
      ≡ after_sources goes (turns (room_of l.writer + 1))
      (filling l.writer (g.L.Outgoing.outlet l.line) (spool_at l.customer l.initial.spool));
  rest : g.L.Outgoing.rest l.line ≡ g.L.Outgoing.rest l.initial.line;
  spool : l.spool ≡ l.initial.spool;
}

abbrev pub decreases-loop-stream : goal.decreases-loop-stream
decreases-loop-stream g l = room_of l.writer
