-- Calls of the keeper one after the other.
use Rattle.{std.proofs.Common.{◌≡◌, inl, refl, sym, subst, arith}, sqlite.proofs.StateLemmas.survives_then}
use Rattle.{sqlite.specs.State.{HasCleanDisk, State, Survives}, sqlite_trees.specs.Tree.Trees}
use Rattle.{njh_spoolfile.specs.{Kept.{Holds, SpoolContents}, Steps.Changes}, njh_keeper.specs.code.Leading.Leads}

-- a call that leaves the spool file as it is
pub leads_nothing : {P : SpoolContents → SpoolContents → Type 0} {at : State} → ((s : SpoolContents) → P s s)
    → Leads P at at
leads_nothing holds = record { leads = λ s stands. (s.now, stands, holds s.now) }

-- one more step
pub leads_then : {P Q R : SpoolContents → SpoolContents → Type 0} {old mid new : State} → Leads P old mid
    → Leads Q mid new → ((s t u : SpoolContents) → P s t → Q t u → R s u) → Leads R old new
leads_then one more both = record {
  leads = λ s stands.
      let first = one.leads s stands in
      let next = more.leads (record s { now = first.0 }) first.1 in
      (next.0, next.1, both s.now first.0 next.0 first.2 next.2);
}

-- what it comes to says less
pub leads_weaker : {P Q : SpoolContents → SpoolContents → Type 0} {old new : State} → Leads P old new
    → ((s t : SpoolContents) → P s t → Q s t) → Leads Q old new
leads_weaker one less = record {
  leads = λ s stands. let first = one.leads s stands in (first.0, first.1, less s.now first.0 first.2);
}

-- a call of the store
pub leads_by : {change : SpoolContents → SpoolContents} {old new : State} → Changes change old new
    → Leads (λ s t. t ≡ change s) old new
leads_by {change} by = record {
  leads = λ s stands. (
    change s.now,
    record {
      is_open = by.is_open;
      now = by.holds s.now stands.now;
      kept = subst (λ at. Holds s.kept at.trees) (sym by.committed) stands.kept;
    },
    refl,
  );
}

-- ---- what a crash leaves

pub survives_here : (at : State) (P : Trees → Type 0) → Survives at at P
survives_here at P = record {
  clean = omega arith;
  shield = λ h. h;
  counts = omega arith;
  limit = refl;
  closes = λ clean h. inl h;
  crash = λ clean db h. inl h;
}

-- a disk that is clean after a call was clean before it
pub clean_before : {old new : State} {P : Trees → Type 0} → Survives old new P → HasCleanDisk new → HasCleanDisk old
clean_before call clean = omega (arith, call.clean, clean)

-- neither of two calls commits
pub survives_both : {old mid new : State} → Survives old mid (λ _. ⊥) → Survives mid new (λ _. ⊥)
    → Survives old new (λ _. ⊥)
survives_both {old} {mid} {new} = survives_then old mid new (λ _. ⊥) (λ _. ⊥) (λ _. ⊥) (λ clean db none. none)
    (λ clean db none. none)

-- what it commits says more
pub survives_as : {old new : State} {P Q : Trees → Type 0} → (HasCleanDisk new → (db : Trees) → P db → Q db)
    → Survives old new P → Survives old new Q
survives_as {old} {new} {P} {Q} less one =
    survives_then old new new P (λ _. ⊥) Q less (λ clean db none. absurd none) one (survives_here new (λ _. ⊥))
