use Rattle.std.proofs.Common.{◌≡◌, []}
use Rattle.njh_trace.proofs.TracedSoFar.{IsTraced}
use Rattle.njh_trace.proofs.tracing.tell_all.Given as goal

abbrev pub invariant-loop : goal.invariant-loop
invariant-loop g l = record {
  traced : IsTraced l.fn.hex (g.R.Read.remaining l.fn.input) (g.R.Read.remaining l.input)
      (g.W.Write.contents l.fn.out) (g.W.Write.contents l.out) l.reading;
  empty : l.lines.items ≡ [];
}
