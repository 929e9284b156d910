use Rattle.njh_keeper.proofs.Words
use Words.{◌≡◌, length, refl, sym, ap, subst, ◌∙◌, arith, Stands, shown, AreDistinct, numbers_of, AllAreFound}
use Words.{AllAreRead, left_in, Survives}
use Rattle.njh_keeper.specs.code.Opening.{MayBegin}
use Rattle.njh_keeper.proofs.{BegunLaws.left_after, KnownLaws.begun_known}
use Rattle.njh_keeper.proofs.keeper.SpoolKeeper.remember.Goals as goal

pub returns-clause-kept : goal.returns-clause-kept
returns-clause-kept g c clean s stands distinct found reads long =
    let hub = c.args.hub.now in
    let owns = c.in_ok-customers.customers.items in
    let names = c.deref.result.now in
    let here : c.self.inside.names.items ≡ names = sym c.deref.ensures.value in
    let view = sym c.self.view_is in
    let begun = c.in_ok-customers.ensures.begun clean s (subst (λ k. Stands s (shown g.S.Store k.store)) view stands)
    (subst AreDistinct here (subst (λ k. AreDistinct k.names) view distinct))
    (subst (λ ns. AllAreFound ns hub) here (subst (λ k. AllAreFound k.names hub) view found))
    (subst (λ ns. AllAreRead ns hub s.now) here (subst (λ k. AllAreRead k.names hub s.now) view reads)) in
    record {
      spool = begun.0;
      stands = begun.2;
      left = ap (λ ns. left_in ns begun.0) (here ∙ sym c.in_ok-customers.ensures.names)
          ∙ left_after names hub owns (numbers_of c.begin.new.writer) begun.0 begun.1
          (subst (λ ns. length ns ≡ length hub) here (subst (λ k. length k.names ≡ length hub) view long));
    }

pub returns-clause-known : goal.returns-clause-known
returns-clause-known g c clean s stands distinct found reads long rests =
    let hub = c.args.hub.now in
    let owns = c.in_ok-customers.customers.items in
    let names = c.deref.result.now in
    let here : c.self.inside.names.items ≡ names = sym c.deref.ensures.value in
    let view = sym c.self.view_is in
    let apart : AreDistinct names = subst AreDistinct here (subst (λ k. AreDistinct k.names) view distinct) in
    let begun =
    c.in_ok-customers.ensures.begun clean s (subst (λ k. Stands s (shown g.S.Store k.store)) view stands) apart
    (subst (λ ns. AllAreFound ns hub) here (subst (λ k. AllAreFound k.names hub) view found))
    (subst (λ ns. AllAreRead ns hub s.now) here (subst (λ k. AllAreRead k.names hub s.now) view reads)) in
    begun_known g.S.Store _ names hub owns begun.0 refl here c.in_ok-customers.ensures.names begun.1 begun.2 apart
    (subst (λ ns. length ns ≡ length hub) here (subst (λ k. length k.names ≡ length hub) view long))
    c.in_ok-customers.ensures.texts
    (λ d low. c.in_ok-see_sound.ensures d (let many = ap length here in omega (arith, low, many, c.len.ensures))) rests

pub returns-in_err-customers-clause-crash : goal.returns-in_err-customers-clause-crash
returns-in_err-customers-clause-crash g c =
    let hub = c.args.hub.now in
    subst (λ k. Survives (shown g.S.Store k.store) (shown g.S.Store c.begin.new.writer.store)
    (MayBegin k.names hub (shown g.S.Store k.store))) c.self.view_is
    (subst (λ ns. Survives (shown g.S.Store c.self.inside.writer.store) (shown g.S.Store c.begin.new.writer.store)
    (MayBegin ns hub (shown g.S.Store c.self.inside.writer.store))) c.deref.ensures.value c.begin.ensures.crash)

pub returns-clause-crash : goal.returns-clause-crash
returns-clause-crash g c =
    let hub = c.args.hub.now in
    subst (λ k. Survives (shown g.S.Store k.store) (shown g.S.Store c.begin.new.writer.store)
    (MayBegin k.names hub (shown g.S.Store k.store))) c.self.view_is
    (subst (λ ns. Survives (shown g.S.Store c.self.inside.writer.store) (shown g.S.Store c.begin.new.writer.store)
    (MayBegin ns hub (shown g.S.Store c.self.inside.writer.store))) c.deref.ensures.value c.begin.ensures.crash)
