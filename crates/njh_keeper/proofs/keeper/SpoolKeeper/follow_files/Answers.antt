use Rattle.njh_keeper.proofs.Words
use Words.{◌≡◌, ◌<◌, get_or, length, map, set, refl, subst, sym, arith, map-set, with_item, KnowsHub, own_memory_of}
use Words.{clean_before, on_ok}
use Rattle.njh_keeper.proofs.{KnownLaws.{known_after, ok_given}, ListLaws.{at_place, within_seen}}
use Rattle.njh_keeper.proofs.keeper.SpoolKeeper.follow_files.Goals as goal

pub returns-clause-known : goal.returns-clause-known
returns-clause-known g c before leads knows =
    let i = c.from-2.result in
    let items = c.self.inside.customers.items in
    let own = c.index_mut-own.result.now in
    let own2 = c.keep_step.new.own in
    let knew = subst (λ k. KnowsHub g.S.Store g.S.Origin.found k before) (sym c.self.view_is) knows in
    let there : i < length items = omega (arith, c.if-from-len.false, c.from.ensures, c.len.ensures, c.from-2.ensures)
    in
    let within : i < length (map own_memory_of items) = within_seen own_memory_of items i there in
    ok_given c.keep_step.result (Unit {0}) _ _ _ (on_ok c.keep_step.result tt) (c.keep_step.ensures.led
    c.files_are_sound.ensures.sound c.files_are_sound.ensures.headers) (λ one led clean began found.
    known_after g.S.Store _ _ before c.args.customer (knew (clean_before c.keep_step.ensures.crash clean) began found)
    (subst (λ n. n < length (map own_memory_of items)) c.from-2.ensures within) c.args.hub.now leads
    c.files_are_sound.ensures.sound c.files_are_sound.ensures.headers (own_memory_of own) (own_memory_of own2)
    (subst (λ n. own_memory_of own ≡ get_or (map own_memory_of items) n (own_memory_of own)) c.from-2.ensures
    (at_place own_memory_of items i own there c.index_mut-own.ensures.value))
    (subst (λ n. map own_memory_of (with_item c.self.inside.customers i own2).items ≡ set (map own_memory_of items) n
    (own_memory_of own2)) c.from-2.ensures (map-set own_memory_of items i own2)) refl (led clean))
