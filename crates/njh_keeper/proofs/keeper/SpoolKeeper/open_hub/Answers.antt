use Rattle.njh_keeper.proofs.Words
use Words.{List, map, sym, ap, subst, ◌∙◌, arith, IfOk-weaker, HasCleanDisk, State, CommitState, Stands, Holds}
use Words.{StandsAsFound, shown, AreDistinct, Part, SameLines, part_at_open, KnowsNow, clean_before, on_ok, Survives}
use Words.{cases_Bool, inl, inr, survives_as}
use Rattle.{std.proofs.lemmas.Result.IfErr-weaker, njh_hub.specs.Parts.entries_of}
use Rattle.njh_keeper.proofs.{KnownLaws.{opened_so, if_ok_given}, StepLaws.{noted_so, refused_none}}
use Rattle.njh_keeper.specs.{Refusal.refusal_of, SetAside.spool_tried}
use Rattle.sqlite.proofs.StateLemmas.{survives_then}
use Rattle.njh_keeper.{proofs.KeptLaws.keeps_all, specs.{code.Opening.MayBegin, Keeper.{IsCommitted, MayOpenTo}}}
use Rattle.njh_keeper.proofs.keeper.SpoolKeeper.open_hub.Goals as goal

pub returns-clause-opened : goal.returns-clause-opened
returns-clause-opened g c =
    let before = ap (λ k. shown g.S.Store k.store) (sym c.self.view_is) in
    IfOk-weaker c.remember_hub.result _ _
    (λ opened same. record {
      lines = subst (λ (ps : List Part). SameLines (map part_at_open (entries_of c.args.tables)) ps) (sym same)
          c.in-Ok-open_from.ensures.lines;
      hub = λ clean spool held. same ∙ c.in-Ok-open_from.ensures.hub (clean_before c.remember_hub.ensures.crash clean)
          spool (subst (λ (at : State). Holds spool at.now.trees) before held);
      back = λ clean spool held. c.in-Ok-open_from.ensures.back (clean_before c.remember_hub.ensures.crash clean) spool
          (subst (λ (at : State). Holds spool at.now.trees) before held);
      refused = λ clean spool held. c.remember_hub.ensures.refused
          ∙ c.in-Ok-open_from.ensures.aside (clean_before c.remember_hub.ensures.crash clean) spool
          (subst (λ (at : State). Holds spool at.now.trees) before held);
      strict = λ strict. c.remember_hub.ensures.refused
          ∙ ap (map refusal_of) (c.in-Ok-open_from.ensures.strict (ap (λ k. k.is_strict) c.self.view_is ∙ strict));
    }) c.remember_hub.ensures.hub

pub returns-clause-settled : goal.returns-clause-settled
returns-clause-settled g c =
    if_ok_given c.remember_hub.result _ _ _ _ _ c.remember_hub.ensures.names c.remember_hub.ensures.kept
    c.remember_hub.ensures.hub (λ hub names kept same. record {
      names = names ∙ c.in-Ok.ensures.each;
      committed = λ clean s given.
          let stands = subst (λ (at : State). Stands s at) (ap (λ k. shown g.S.Store k.store) (sym c.self.view_is))
          given in
          let early = clean_before c.remember_hub.ensures.crash clean in
          let so = opened_so c.args.tables (spool_tried c.args.tables s.now) c.in-Ok.names.items
          c.in-Ok-open_from.opened.hub c.in-Ok.ensures.each
          (c.in-Ok-open_from.ensures.hub early s.now stands.now) (c.in-Ok-open_from.ensures.back early s.now stands.now)
          in subst (λ (ps : List Part). IsCommitted g.S.Store c.remember_hub.new.self ps) (sym same)
          (kept clean (record s { now = spool_tried c.args.tables s.now })
          (c.in-Ok-open_from.ensures.now early s stands)
          (subst AreDistinct (sym c.in-Ok.ensures.each) c.names_of.ensures.accepted.names) so.0 so.1 so.2);
    })

pub returns-clause-known : goal.returns-clause-known
returns-clause-known g c =
    if_ok_given c.remember_hub.result _ _ _ _ _ c.remember_hub.ensures.names c.remember_hub.ensures.known
    c.remember_hub.ensures.hub (λ hub names known same clean began found.
    let s : CommitState = record { now = began; kept = began } in
    let early = clean_before c.remember_hub.ensures.crash clean in
    let first : HasCleanDisk (shown g.S.Store c.self.inside.writer.store) =
    omega (arith, early, c.open_from.ensures.crash.clean) in
    let stands = c.self.invariant.0 c.if-not-self.false first began found in
    let so = opened_so c.args.tables (spool_tried c.args.tables began) c.in-Ok.names.items
    c.in-Ok-open_from.opened.hub c.in-Ok.ensures.each
    (c.in-Ok-open_from.ensures.hub early began stands.now) (c.in-Ok-open_from.ensures.back early began stands.now) in
    subst (λ (ps : List Part). KnowsNow g.S.Store c.remember_hub.new.self ps) (sym same)
    (known clean (record s { now = spool_tried c.args.tables began }) (c.in-Ok-open_from.ensures.now early s stands)
    (subst AreDistinct (sym c.in-Ok.ensures.each) c.names_of.ensures.accepted.names) so.0 so.1 so.2 so.3))

pub returns-clause-stood : goal.returns-clause-stood
returns-clause-stood g c =
    on_ok c.remember_hub.result (subst (λ k. StandsAsFound g.S.Store g.S.Origin.found k.store) c.self.view_is
    (c.self.invariant.0 c.if-not-self.false))

pub returns-in-Err-open_from-clause-refused : goal.returns-in-Err-open_from-clause-refused
returns-in-Err-open_from-clause-refused g c clean is spool held =
    let before = ap (λ k. shown g.S.Store k.store) (sym c.self.view_is) in
    let store = ap (λ k. k.store) c.refuse.ensures.others in
    noted_so c.args.tables spool c.in-Err-open_from.fault c.refuse.result c.refuse.new.self.refused
    c.refuse.ensures.noted is
    (c.in-Err-open_from.ensures.refused (subst (λ s. HasCleanDisk (shown g.S.Store s)) store clean) spool
    (subst (λ (at : State). Holds spool at.now.trees) before held))

pub returns-clause-refused : goal.returns-clause-refused
returns-clause-refused g c clean =
    IfErr-weaker c.remember_hub.result _ _ (λ fault other is spool held. absurd (other is)) c.remember_hub.ensures.told

pub returns-in-Err-open_from-clause-spared : goal.returns-in-Err-open_from-clause-spared
returns-in-Err-open_from-clause-spared g c is = (
  elim (cases_Bool c.self.inside.is_strict) [
    | inl strict ↦ ap (λ k. k.is_strict) (sym c.self.view_is) ∙ strict
    | inr lax ↦ absurd (refused_none c.in-Err-open_from.fault c.refuse.result c.refuse.new.self.refused
        c.refuse.ensures.noted is (c.in-Err-open_from.ensures.lenient lax))
  ],
  subst (λ k. Survives (shown g.S.Store k.store) (shown g.S.Store c.refuse.new.self.store) (λ _. ⊥)) c.self.view_is
      (subst (λ k. Survives (shown g.S.Store c.self.inside.writer.store) (shown g.S.Store k.store) (λ _. ⊥))
      (sym c.refuse.ensures.others) c.open_from.ensures.crash),
)

pub returns-clause-spared : goal.returns-clause-spared
returns-clause-spared g c =
    IfErr-weaker c.remember_hub.result _ _ (λ fault other is. absurd (other is)) c.remember_hub.ensures.told

pub returns-in-Err-open_from-clause-crash : goal.returns-in-Err-open_from-clause-crash
returns-in-Err-open_from-clause-crash g c =
    survives_as (λ clean db none. absurd none)
    (subst (λ k. Survives (shown g.S.Store k.store) (shown g.S.Store c.refuse.new.self.store) (λ _. ⊥)) c.self.view_is
    (subst (λ k. Survives (shown g.S.Store c.self.inside.writer.store) (shown g.S.Store k.store) (λ _. ⊥))
    (sym c.refuse.ensures.others) c.open_from.ensures.crash))

pub returns-clause-crash : goal.returns-clause-crash
returns-clause-crash g c =
    let first = shown g.S.Store c.self.inside.writer.store in
    let mid = shown g.S.Store c.open_from.new.store in
    let last = shown g.S.Store c.remember_hub.new.self.store in
    subst (λ k. Survives (shown g.S.Store k.store) last (MayOpenTo g.S.Origin.found (shown g.S.Store k.store)))
    c.self.view_is
    (survives_then first mid last (λ _. ⊥) (MayBegin c.in-Ok.names.items c.in-Ok-open_from.opened.hub mid)
    (MayOpenTo g.S.Origin.found first) (λ clean db none. absurd none)
    (λ clean db made began found.
    let s : CommitState = record { now = began; kept = began } in
    let early = clean_before c.remember_hub.ensures.crash clean in
    let stands = c.self.invariant.0 c.if-not-self.false (clean_before c.open_from.ensures.crash early) began found in
    let hub_is = c.in-Ok-open_from.ensures.hub early began stands.now in
    let back = c.in-Ok-open_from.ensures.back early began stands.now in
    let so = opened_so c.args.tables (spool_tried c.args.tables began) c.in-Ok.names.items
    c.in-Ok-open_from.opened.hub c.in-Ok.ensures.each hub_is back in
    let there = made (record s { now = spool_tried c.args.tables began }) (c.in-Ok-open_from.ensures.now early s stands)
    (subst AreDistinct (sym c.in-Ok.ensures.each) c.names_of.ensures.accepted.names) so.0 so.1 in (
      there.0,
      stands,
      there.1,
      keeps_all c.args.tables began there.0 c.in-Ok.names.items c.in-Ok-open_from.opened.hub c.in-Ok.ensures.each
          hub_is back there.2,
    ))
    c.open_from.ensures.crash c.remember_hub.ensures.crash)
