use Rattle.njh_keeper.proofs.Words
use Words.{◌≡◌, true, map, take, string_bytes, AllByRecursion, HasCleanDisk, Survives, shown, Leads, own_of}
use Words.{AllAreFound, entries, is_name_of}
use Rattle.njh_keeper.specs.code.Opening.{RememberingAll}
use Rattle.njh_keeper.proofs.remembering.remember_all.Given as goal

-- so many customers' files are remembered
abbrev pub invariant-loop-place : goal.invariant-loop-place
invariant-loop-place g l =
    let old = shown g.S.Store l.fn.writer.store in
    let now = shown g.S.Store l.writer.store in
    record {
      crash : Survives old now (λ _. ⊥);
      writer : l.writer ≡ record l.fn.writer { store = l.writer.store; is_changed = l.writer.is_changed };
      names : map (λ own. own.name) l.customers.items ≡ take l.place l.names;
      texts : AllByRecursion (λ own. is_name_of (string_bytes own.text) own.name ≡ true) l.customers.items;
      led : AllAreFound l.names l.hub → HasCleanDisk now
          → Leads (RememberingAll l.names l.hub (entries l.files) (map own_of l.customers.items)) old now;
    }
