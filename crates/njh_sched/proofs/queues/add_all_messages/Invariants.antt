use Rattle.std.proofs.Common.{◌≡◌, Bool, true, length}
use Rattle.njh_spool.specs.CustomerSpool.{CustomerSpool, WholeFile}
use Rattle.njh_sched.specs.NextBlock.{after_sources, filling, messages_where}
use Rattle.njh_sched.proofs.queues.add_all_messages.Given as goal

abbrev pub invariant-loop-message : goal.invariant-loop-message
invariant-loop-message g l = record {
  source : (goes : WholeFile → Bool) (s : CustomerSpool)
      → after_sources goes (messages_where true (g.L.Outgoing.outlet l.initial.line).messages) (filling l.initial.writer
      (g.L.Outgoing.outlet l.initial.line) s)
      ≡ after_sources goes (messages_where true (g.L.Outgoing.outlet l.line).messages)
      (filling l.writer (g.L.Outgoing.outlet l.line) s);
  rest : g.L.Outgoing.rest l.line ≡ g.L.Outgoing.rest l.initial.line;
}

abbrev pub decreases-loop-message : goal.decreases-loop-message
decreases-loop-message g l = length (g.L.Outgoing.outlet l.line).messages
