use Rattle.njh_keeper.proofs.Words
use Words.{◌-◌, length, take, HasCleanDisk, Survives, shown, Survive, part, Grows, IsQuiet, LeadsFiles, stage_of}
use Words.{AreNumbered, IsWalkedTo}
use Rattle.njh_keeper.proofs.following.follow_old.Given as goal

abbrev pub decreases-loop-index : goal.decreases-loop-index
decreases-loop-index g l = length l.own.whole.items - l.index

-- so many files were followed
abbrev pub invariant-loop-index : goal.invariant-loop-index
invariant-loop-index g l =
    let first = shown g.S.Store l.fn.writer.store in
    let now = shown g.S.Store l.writer.store in
    let whole = (part l.customer l.hub).customer.spool.whole in
    record {
      crash : Survives first now (λ _. ⊥);
      led : AreNumbered whole → HasCleanDisk now
          → LeadsFiles (λ s files. Survive files (take l.old whole) × AreNumbered files)
          (λ files here. IsWalkedTo (take l.old whole) here l.index)
          (stage_of g.S.Store l.fn.writer l.fn.own) (stage_of g.S.Store l.writer l.own);
      grows : Grows l.fn.writer l.fn.own l.writer l.own;
      quiet : IsQuiet l.fn.writer l.writer;
    }
