use Rattle.njh_keeper.proofs.Words
use Words.{◌≡◌, ◌++◌, min, ℕ, HasCleanDisk, Survives, CommitState, Stands, shown, ShowsNow, unmarked, without_keys}
use Rattle.njh_keeper.specs.code.Writing.{HoldChanged}
use Rattle.njh_keeper.proofs.writer.SpoolWriter.empty_unmarked.Given as goal

-- so many numbers were looked at
abbrev pub invariant-loop-key : goal.invariant-loop-key
invariant-loop-key g l =
    let old = shown g.S.Store l.fn.self.store in
    let now = shown g.S.Store l.self.store in
    record {
      crash : Survives old now (λ trees. (n : ℕ) × HoldChanged (without_keys (unmarked l.marks n)) old trees);
      emptied : HasCleanDisk now → (s : CommitState) → Stands s old
          → ShowsNow (without_keys (unmarked l.marks l.key)) s now;
      free : l.self.free_keys.items ≡ l.fn.self.free_keys.items ++ unmarked l.marks (min l.key l.fn.self.next_key);
      others : l.self ≡ record l.fn.self {
        store = l.self.store;
        free_keys = l.self.free_keys;
        waiting = l.self.waiting;
        is_changed = l.self.is_changed;
      };
    }
