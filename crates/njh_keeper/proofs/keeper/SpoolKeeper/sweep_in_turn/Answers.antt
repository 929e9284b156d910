use Rattle.njh_keeper.proofs.Words
use Words.{◌<◌, ⊤, length, map, set, refl, subst, sym, ap, map-set, slice_get, OnOk, KnowsHub, SpoolWriter}
use Words.{clean_before, on_ok, own_memory_of, part, AllByRecursion}
use Rattle.{std.specs.Option.IsSomeAnd, njh_keeper.specs.code.Swept.{HasNoSweeps, HasSweeps, IsSwept}}
use Rattle.njh_keeper.proofs.{KnownLaws.{known_swept, ok_given}, ListLaws.{at_place, within_seen}}
use Rattle.njh_keeper.proofs.SweptLaws.{has_there, none_is_swept, one_is_swept}
use Rattle.njh_keeper.proofs.keeper.SpoolKeeper.sweep_in_turn.Goals as goal

pub returns-clause-known : goal.returns-clause-known
returns-clause-known g c parts knows =
    let i = c.in-Some.place in
    let items = c.self.inside.customers.items in
    let own = c.index_mut-own.result.now in
    let own1 = c.sweep.new.own in
    let there = subst (λ xs. i < length xs) c.deref.ensures.value c.in-Some.ensures.within in
    let knew = subst (λ k. KnowsHub g.S.Store g.S.Origin.found k parts) (sym c.self.view_is) knows in
    ok_given c.sweep.result ⊤ ⊤ _ _ (on_ok c.sweep.result tt) (λ _. c.sweep.ensures.kept (part i parts).customer.spool)
    (λ one kept clean began found.
    let k = kept tt in
    known_swept g.S.Store _ _ parts i (knew (clean_before c.sweep.ensures.crash clean) began found)
    (within_seen own_memory_of items i there) (own_memory_of own) (own_memory_of own1)
    (at_place own_memory_of items i own there c.index_mut-own.ensures.value) (map-set own_memory_of items i own1) refl
    (ap own_memory_of c.sweep.ensures.others) (ap (λ (w : SpoolWriter g.row.S.Denot). w.is_changed) k.numbers)
    (k.led clean))

pub returns-in_default-clause-swept : goal.returns-in_default-clause-swept
returns-in_default-clause-swept g c =
    subst (λ k. IsSwept k.customers k.customers) c.self.view_is (none_is_swept c.self.inside.customers.items
    (subst (AllByRecursion HasNoSweeps) c.deref.ensures.value (c.in_default.ensures.none refl)))

pub returns-clause-swept : goal.returns-clause-swept
returns-clause-swept g c =
    let i = c.in-Some.place in
    let items = c.self.inside.customers.items in
    let own = c.index_mut-own.result.now in
    let own1 = c.sweep.new.own in
    let there = subst (λ xs. i < length xs) c.deref.ensures.value c.in-Some.ensures.within in
    let has = has_there items i own there c.index_mut-own.ensures.value
    (subst (λ xs. IsSomeAnd (slice_get xs i) HasSweeps) c.deref.ensures.value c.in-Some.ensures.has) in
    subst (λ k. OnOk c.sweep.result (IsSwept k.customers (map own_memory_of (set items i own1)))) c.self.view_is
    (ok_given c.sweep.result ⊤ ⊤ _ _ (on_ok c.sweep.result tt) (λ _. c.sweep.ensures.swept) (λ one swept.
    one_is_swept items i own own1 there c.index_mut-own.ensures.value has c.sweep.ensures.others (swept tt)))
