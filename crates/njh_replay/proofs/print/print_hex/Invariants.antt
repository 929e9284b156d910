use Rattle.std.proofs.Common.{◌≡◌, length}
use Rattle.njh_replay.specs.declared.print.TheConstants.{LINE}
use Rattle.njh_replay.proofs.Printing.{IsWrittenBut}
use Rattle.njh_replay.proofs.print.print_hex.Given as goal

abbrev pub invariant-loop-rest : goal.invariant-loop-rest
invariant-loop-rest g l = record {
  written : IsWrittenBut l.rest l.bytes (g.W.Write.contents l.fn.out) (g.W.Write.contents l.out);
  room : length l.digits ≡ LINE;
}

abbrev pub decreases-loop-rest : goal.decreases-loop-rest
decreases-loop-rest g l = length l.rest
