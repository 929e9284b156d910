use Rattle.std.proofs.Common.{◌≡◌, ◌≤◌, ◌+◌, length}
use Rattle.std.specs.Prelude.{max}
use Rattle.{sqlite.specs.State.Survives, njh_spoolfile.specs.Shelf.shown, njh_spool.specs.CustomerSpool.CustomerSpool}
use Rattle.njh_keeper.specs.code.{Partly.KeepsPartly, Writing.dead_of}
use Rattle.njh_keeper.proofs.sweeping.sweep.Given as goal

abbrev pub decreases-loop-left : goal.decreases-loop-left
decreases-loop-left g l = length l.own.sweeps.items + l.left

-- nothing was committed, and all were dropped but those that are left of them
abbrev pub invariant-loop-left : goal.invariant-loop-left
invariant-loop-left g l = record {
  crash : Survives (shown g.S.Store l.fn.writer.store) (shown g.S.Store l.writer.store) (λ _. ⊥);
  kept : (now : CustomerSpool) → KeepsPartly g.S.Store now l.fn.writer l.fn.own l.writer l.own;
  others : l.own ≡ record l.fn.own { sweeps = l.own.sweeps };
  dead : dead_of l.own.sweeps.items + max l.wrote 512 ≤ dead_of l.fn.own.sweeps.items + l.left;
}
