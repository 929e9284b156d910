use Rattle.njh_keeper.proofs.Words
use Words.{Survives, shown, part, KeepsPartly}
use Rattle.njh_keeper.proofs.portions.keep_of_lines.Given as goal

-- nothing was committed, and records are kept of the files of the lines so far
abbrev pub invariant-loop-number : goal.invariant-loop-number
invariant-loop-number g l = record {
  crash : Survives (shown g.S.Store l.fn.writer.store) (shown g.S.Store l.writer.store) (λ _. ⊥);
  kept : KeepsPartly g.S.Store (part l.customer l.hub).customer.spool l.fn.writer l.fn.own l.writer l.own;
}
