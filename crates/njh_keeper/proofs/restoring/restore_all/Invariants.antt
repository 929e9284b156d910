use Rattle.{std.proofs.Common.{◌≡◌, length, map, take, drop, true, []}, sqlite.specs.State.{HasCleanDisk, Survives}}
use Rattle.njh_spoolfile.specs.{Kept.{SpoolContents, Holds}, Shelf.shown}
use Rattle.{njh_hub.specs.WholeHub.SameLines, njh_keeper.specs.{Refusal.refusal_of, code.Opening.entries}}
use Rattle.njh_keeper.specs.code.Restoring.{AreTried, KeepsCommit}
use Rattle.njh_keeper.proofs.restoring.restore_all.Given as goal

-- so many files were tried
abbrev pub invariant-loop-at : goal.invariant-loop-at
invariant-loop-at g l =
    let old = shown g.S.Store l.fn.store in
    let now = shown g.S.Store l.store in
    record {
      count : length l.hub ≡ length l.fn.hub;
      lines : SameLines l.fn.hub l.hub;
      crash : Survives old now (λ _. ⊥);
      keeps : HasCleanDisk now → KeepsCommit old now;
      strict : l.is_strict ≡ true → l.refused.items ≡ [];
      tried : HasCleanDisk now → (spool : SpoolContents) → Holds spool old.now.trees → entries l.files ≡ spool.files
          → AreTried l.names l.fn.hub l.hub (take l.at l.files) (drop l.at l.files) (map refusal_of l.refused.items)
          spool now;
    }
