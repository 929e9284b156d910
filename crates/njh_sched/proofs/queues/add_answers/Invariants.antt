use Rattle.std.proofs.Common.{◌≡◌, Bool, length}
use Rattle.njh_spool.specs.CustomerSpool.{CustomerSpool, WholeFile}
use Rattle.njh_sched.specs.NextBlock.{after_sources, filling, waiting_answers}
use Rattle.njh_sched.proofs.queues.add_answers.Given as goal

abbrev pub invariant-loop-answer : goal.invariant-loop-answer
invariant-loop-answer g l = record {
  source : (goes : WholeFile → Bool) (s : CustomerSpool)
      → after_sources goes (waiting_answers (g.L.Outgoing.outlet l.initial.line)) (filling l.initial.writer
      (g.L.Outgoing.outlet l.initial.line) s)
      ≡ after_sources goes (waiting_answers (g.L.Outgoing.outlet l.line))
      (filling l.writer (g.L.Outgoing.outlet l.line) s);
  rest : g.L.Outgoing.rest l.line ≡ g.L.Outgoing.rest l.initial.line;
}

abbrev pub decreases-loop-answer : goal.decreases-loop-answer
decreases-loop-answer g l = length (g.L.Outgoing.outlet l.line).answers
