use Rattle.std.proofs.Common.{◌≡◌, ap, sym, subst}
use Rattle.sqlite.specs.Effect.{Database}
use Rattle.sqlite.specs.Held.{state}
use Rattle.sqlite.specs.State.{HasCleanDisk, State}
use Rattle.njh_spoolfile.specs.Kept.{Holds}
use Rattle.njh_spoolfile.specs.Shelf.{Shelf, shown}
use Rattle.njh_spoolfile.proofs.CopyLaws.{clean_before}
use Rattle.njh_spoolfile.proofs.ReadingLaws.{if_ok}
use Rattle.njh_spoolfile.proofs.store.Store.drop_records.Goals as goal

-- the transaction that may have begun shows what was there
pub returns-clause-counted : goal.returns-clause-counted
returns-clause-counted g c clean =
    let is : shown g.S.Store c.begin.new.self ≡ state g.S.Store c.self.inside.conn =
    sym (ap (λ (x : Shelf g.row.S.Denot). shown g.S.Store x) c.self.view_is) in
    let begun = c.in_ok-begin.ensures.begun
    (subst HasCleanDisk (sym is) (clean_before c.delete_records-done.ensures.crash clean)) in
    if_ok _ _ (λ count counted spool held. counted spool (subst (λ (at : State). Holds spool at.now.trees) is
    (subst (λ (d : Database). Holds spool d.trees) (sym begun.now) held)))
    c.delete_records-done.result (c.delete_records-done.ensures.counted clean)
