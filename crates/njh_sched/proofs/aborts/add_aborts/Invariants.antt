use Rattle.std.proofs.Common.{◌≡◌, Bool, drop, map}
use Rattle.njh_spool.specs.CustomerSpool.{CustomerSpool, WholeFile}
use Rattle.njh_sched.specs.NextBlock.{StreamAbort, after_sources, aborts, filling, streams}
use Rattle.njh_sched.proofs.aborts.add_aborts.Given as goal

abbrev pub invariant-loop-place : goal.invariant-loop-place
invariant-loop-place g l = record {
  source : (goes : WholeFile → Bool) (s : CustomerSpool)
      → after_sources goes aborts (filling l.initial.writer (g.L.Outgoing.outlet l.initial.line) s)
      ≡ after_sources goes (map StreamAbort (drop l.place streams)) (filling l.writer (g.L.Outgoing.outlet l.line) s);
  rest : g.L.Outgoing.rest l.line ≡ g.L.Outgoing.rest l.initial.line;
}
