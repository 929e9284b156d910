use Rattle.njh_ctl.proofs.WrittenUpTo.{IsWrittenUpTo}
use Rattle.njh_ctl.proofs.session.write.Given as goal

abbrev pub invariant-loop : goal.invariant-loop
invariant-loop g l = IsWrittenUpTo l.rest l.bytes (g.W.Write.contents l.fn.out) (g.W.Write.contents l.out)
