use Rattle.std.proofs.Common.{◌<◌, ◌^◌, map, option_map, take}
use Rattle.sqlite.specs.State.{HasCleanDisk, Survives}
use Rattle.njh_spoolfile.specs.Kept.{Holds, SpoolContents, entry_of}
use Rattle.njh_spoolfile.specs.Shelf.{shown}
use Rattle.njh_spoolfile.specs.Steps.{Stays}
use Rattle.njh_spoolfile.specs.code.CopySteps.{Adds, IsBehind, LeadsTo, asked_of}
use Rattle.njh_spoolfile.proofs.copying.copy_each.Given as goal

-- those of so many files that are asked for are copied
abbrev pub invariant-loop-stored : goal.invariant-loop-stored
invariant-loop-stored g l =
    let first_old = shown g.S.Store l.fn.from in
    let first_now = shown g.S.Store l.from in
    let old = shown g.T.Store l.fn.into in
    let now = shown g.T.Store l.into in
    let done = asked_of (option_map (λ c. c.now) l.customer) (map entry_of (take l.stored-index l.files)) in
    record {
      copied : HasCleanDisk first_now → HasCleanDisk now → (spool : SpoolContents) → Holds spool first_old.now.trees
          → LeadsTo (Adds l.fn.first.id l.fn.first.key spool done) old now;
      counted : IsBehind l.fn.first done l.next;
      low : l.fn.first.id < 2 ^ 63 → l.next.id < 2 ^ 63;
      same : HasCleanDisk first_now → Stays first_old first_now;
      crash_from : Survives first_old first_now (λ _. ⊥);
      crash : Survives old now (λ _. ⊥);
    }
