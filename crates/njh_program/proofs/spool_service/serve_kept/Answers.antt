use Rattle.std.proofs.Common.{◌≡◌, Result, Ok, OnOk, subst}
use Rattle.njh_spoolfile.specs.{Shelf.{Shelf, shown}, Steps.Stays}
use Rattle.njh_program.proofs.spool_service.serve_kept.Goals as goal

taken : {T E : Type 0} (P : Type 0) (r : Result T E) (x : T) → r ≡ Ok x → OnOk r P → P
taken {T} {E} P r x is h = subst (λ (r : Result T E). OnOk r P) is h

-- the keeper that served is the one that looked for strangers, over the spool file that was given
pub returns-in-Ok-served-clause-kept : goal.returns-in-Ok-served-clause-kept
returns-in-Ok-served-clause-kept g c =
    let over = taken _ _ _ c.in-Ok-served.is c.serve_over-served.ensures.served in
    record {
      tables = over.0;
      given = over.1;
      keeper = c.log_strangers.new.keeper;
      stays = λ clean. subst (λ (store : Shelf g.row.S.Denot). Stays (shown g.S.Store store)
          (shown g.S.Store c.log_strangers.new.keeper.store)) c.new-keeper.ensures.0 (c.in-Ok.ensures.stays clean);
      new_keeper = c.serve_over-served.result.1;
      served = over.2;
    }
