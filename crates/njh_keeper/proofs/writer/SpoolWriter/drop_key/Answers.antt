use Rattle.std.proofs.Common.{Result, Ok, Err, OnOk, inl, inr, sym, subst, ◌^◌}
use Rattle.{std.proofs.lemmas.Bool.cases_Bool, sqlite.specs.State.HasCleanDisk}
use Rattle.njh_spoolfile.{proofs.ReadingLaws.ok_then, specs.{Kept.without_records, Shelf.shown}}
use Rattle.njh_keeper.proofs.{LeadingLaws.clean_before, WriterLaws.{changed_kept, drops_kept, drops_waiting, not_due}}
use Rattle.njh_keeper.specs.{code.Writing.{Drops, is_due}, declared.writer.SpoolWriter.SpoolWriter}
use Rattle.njh_keeper.proofs.writer.SpoolWriter.drop_key.Goals as goal

on_any : {T E : Type 0} (r : Result T E) (P : Type 0) → P → OnOk r P
on_any (Ok x) P p = p
on_any (Err e) P p = tt

pub returns-clause-dropped : goal.returns-clause-dropped
returns-clause-dropped g c clean =
    let key = c.args.key in
    let old = shown g.S.Store c.args.self.now.store in
    let mid = shown g.S.Store c.drop_records.new.self in
    let new = shown g.S.Store c.settle.new.self.store in
    let waited = c.args.self.now.waiting in
    let waiting = c.with_dropped-self.result in
    let clean_mid : HasCleanDisk mid = clean_before c.settle.ensures.crash clean in
    let made = c.in_ok-dropped.ensures.changed clean_mid in
    let counted = c.in_ok-dropped.ensures.counted clean_mid in
    elim (cases_Bool (is_due c.args.self.now.is_changed waiting)) [
      | inl due ↦ ok_then c.settle.result _ _
          (λ by s at. drops_kept key s old mid c.in_ok-dropped.dropped waited c.settle.new.self.waiting made counted at
          new by) (c.settle.ensures.kept due clean)
      | inr early ↦ on_any c.settle.result _ (λ s at. subst (λ (x : SpoolWriter g.row.S.Denot).
          Drops (without_records key 0 (2 ^ 23)) waited x.waiting s (shown g.S.Store x.store))
          (sym (c.settle.ensures.waits early).1)
          (drops_waiting key s old mid c.in_ok-dropped.dropped waited waiting made counted at
          c.with_dropped-self.ensures (not_due c.args.self.now.is_changed waiting early)))
    ]

pub returns-clause-crash : goal.returns-clause-crash
returns-clause-crash g c =
    changed_kept (without_records c.args.key 0 (2 ^ 23)) _ (shown g.S.Store c.drop_records.new.self) _
    c.in_ok-dropped.ensures.changed c.drop_records.ensures.crash c.settle.ensures.crash
