use Rattle.njh_io.proofs.WrittenUpTo.{IsWrittenUpTo}
use Rattle.njh_io.proofs.writing.write_bytes.Given as goal

abbrev pub invariant-loop : goal.invariant-loop
invariant-loop g l = IsWrittenUpTo l.rest l.bytes (g.W.Write.contents l.fn.out) (g.W.Write.contents l.out)
