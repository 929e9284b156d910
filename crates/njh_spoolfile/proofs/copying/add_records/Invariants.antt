use Rattle.std.proofs.Common.{map, take}
use Rattle.sqlite.specs.State.{HasCleanDisk, Survives}
use Rattle.njh_spoolfile.specs.Kept.{contents_of}
use Rattle.njh_spoolfile.specs.Shelf.{shown}
use Rattle.njh_spoolfile.specs.code.CopySteps.{FillsEmpty, LeadsTo}
use Rattle.njh_spoolfile.proofs.copying.add_records.Given as goal

-- so many stand there
abbrev pub invariant-loop-stored : goal.invariant-loop-stored
invariant-loop-stored g l =
    let old = shown g.T.Store l.fn.into in
    let now = shown g.T.Store l.into in
    let all = map contents_of l.records in
    record {
      added : HasCleanDisk now → LeadsTo (FillsEmpty l.key all (take l.stored-index all)) old now;
      crash : Survives old now (λ _. ⊥);
    }
