use Rattle.njh_keeper.proofs.Words
use Words.{◌≡◌, take, HasCleanDisk, Survives, shown, part, Grows, AreFronts, IsQuiet, LeadsFiles, stage_of, own_of}
use Words.{AreNumbered}
use Rattle.njh_keeper.proofs.following.add_new.Given as goal

-- so many files are there
abbrev pub invariant-loop-index : goal.invariant-loop-index
invariant-loop-index g l =
    let first = shown g.S.Store l.fn.writer.store in
    let now = shown g.S.Store l.writer.store in
    let whole = (part l.customer l.hub).customer.spool.whole in
    record {
      crash : Survives first now (λ _. ⊥);
      led : AreNumbered whole → HasCleanDisk now
          → LeadsFiles (λ s files. (files ≡ take l.old whole) × AreFronts s (own_of l.fn.own).partial whole)
          (λ files here. here ≡ take l.index whole)
          (stage_of g.S.Store l.fn.writer l.fn.own) (stage_of g.S.Store l.writer l.own);
      grows : AreNumbered whole → Grows l.fn.writer l.fn.own l.writer l.own;
      quiet : IsQuiet l.fn.writer l.writer;
    }
