use Rattle.njh_keeper.proofs.Words
use Words.{◌≡◌, true, drop, map, string_bytes, HasCleanDisk, Survives, shown, part, Leads, whole_of, AreFound, Reads}
use Words.{entries, owned_of, is_name_of}
use Rattle.njh_keeper.proofs.remembering.remember_files.Given as goal

-- the customer's rows among the first so many were read
abbrev pub invariant-loop-at : goal.invariant-loop-at
invariant-loop-at g l =
    let old = shown g.S.Store l.fn.writer.store in
    let now = shown g.S.Store l.writer.store in
    let name = l.fn.own.name in
    let spool = (part l.customer l.hub).customer.spool in
    record {
      crash : Survives old now (λ _. ⊥);
      writer : l.writer ≡ record l.fn.writer { store = l.writer.store; is_changed = l.writer.is_changed };
      others : l.own ≡ record l.fn.own { whole = l.own.whole };
      led : is_name_of (string_bytes l.fn.own.text) name ≡ true → AreFound spool → HasCleanDisk now
          → Leads (Reads name spool (map whole_of l.fn.own.whole.items) (map whole_of l.own.whole.items)
          (owned_of name (entries l.files)) (owned_of name (entries (drop l.at l.files)))) old now;
    }
