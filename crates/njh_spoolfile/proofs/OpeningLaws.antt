-- What an open of a database gives.
use Rattle.std.proofs.Common.{◌≡◌, IfOk, Ok, Result, inl, inr, sym, ap, subst, ◌∙◌}
use Rattle.sqlite.specs.Effect.{Database}
use Rattle.sqlite.specs.State.{State, HasCleanDisk, IsLive, Opens}
use Rattle.sqlite.specs.Start.{FindsIn}
use Rattle.sqlite.specs.Recovery.{Image}
use Rattle.sqlite_catalog.specs.Listing.{IsSound}
use Rattle.njh_spoolfile.specs.Kept.{SpoolContents, Holds, IsOf}
use Rattle.njh_spoolfile.specs.Origin.{IsFoundIn}
use Rattle.njh_spoolfile.specs.Reopened.{BecomesSpool, OpensFrom}
use Rattle.njh_spoolfile.specs.CommitState.{Stands}
use Rattle.njh_spoolfile.specs.Steps.{TakesOver}
use Rattle.njh_spoolfile.specs.Tables.{spool_schema}
use Rattle.njh_spoolfile.specs.declared.versions.Version.TheVariants.{Current}

pub at_ok : {T E : Type 0} (P : T → Type 0) (r : Result T E) (x : T) → r ≡ Ok x → IfOk r P → P x
at_ok P r x is h = subst (λ s. IfOk s P) is h

module _ (image : Image) (was now : State) (opens : HasCleanDisk was → Opens was × IsLive was)
    (finds : HasCleanDisk was → FindsIn image was) (it : BecomesSpool was now) where
  pub opens_from : HasCleanDisk now → OpensFrom image now.now.trees
  opens_from clean =
      let opened = opens (it.clean clean) in
      let found = finds (it.clean clean) in
      record {
        found = was.committed.trees;
        holds = found.holds;
        reads = found.reads;
        kept = elim (it.outcome clean) [
          | inl stays ↦ inl (
            ap (λ (d : Database). d.trees) (stays.0.now ∙ opened.0.clean),
            subst (λ (d : Database). IsOf Current (d.trees 0)) opened.0.clean stays.1,
          )
          | inr becomes ↦ inr (elim becomes [
            | inl made ↦ inl (
              subst (λ s. IsSound s was.committed.trees)
                  (sym (ap (λ (d : Database). d.schema) opened.0.clean) ∙ made.0) (opened.1 opened.0.is_open).1,
              made.1,
            )
            | inr taken ↦ inr (subst (λ (d : Database). TakesOver d.trees now.now.trees) opened.0.clean taken)
          ])
        ];
      }

  pub stands_as_found : HasCleanDisk now → (spool : SpoolContents) → IsFoundIn image spool
      → Stands (record { now = spool; kept = spool }) now
  stands_as_found clean spool found =
      let idle = it.idle clean in
      let sound : IsSound spool_schema now.now.trees =
      subst (λ s. IsSound s now.now.trees) idle.schema (it.live idle.is_open).0 in
      let there : Holds spool now.now.trees = found now.now.trees sound (opens_from clean) in
      record {
        is_open = idle.is_open;
        now = there;
        kept = subst (λ (d : Database). Holds spool d.trees) (sym idle.kept)
            there;
      }
