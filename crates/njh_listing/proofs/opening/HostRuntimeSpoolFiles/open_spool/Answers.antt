use Rattle.std.proofs.Common.{◌≡◌, Result, subst, sym}
use Rattle.std.specs.Prelude.{IfOk}
use Rattle.std.proofs.lemmas.Result.{IfOk-weaker}
use Rattle.njh_listing.proofs.opening.HostRuntimeSpoolFiles.open_spool.Goals as goal

-- what holds of a value holds of what is the same
same_has : {T E : Type 0} (r : Result T E) (P : T → Type 0) (x : T) → P x → IfOk r (λ y. y ≡ x) → IfOk r P
same_has r P x has same = IfOk-weaker r (λ y. y ≡ x) P (λ y e. subst P (sym e) has) same

pub returns-in-Ok-open_store-clause-found : goal.returns-in-Ok-open_store-clause-found
returns-in-Ok-open_store-clause-found g c =
    same_has c.where_set.result _ _ c.in-Ok-open_store.ensures.found c.where_set.ensures.same
