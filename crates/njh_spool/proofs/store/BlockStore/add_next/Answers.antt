use Rattle.std.proofs.Common.{◌≡◌, ◌*◌, ◌<◌, Some, sym, subst, arith}
use Rattle.slab.specs.Slab.{slab_len, Updates}
use Rattle.njh_spool.specs.declared.store.spool_block.SpoolBlock.{SpoolBlock}
use Rattle.njh_spool.specs.code.Chains.{blocks_for}
use Rattle.njh_spool.proofs.ChainLaws.{used_is}
use Rattle.njh_spool.proofs.ChainWrites.{has_last_block, fits_longer, linked, grows_linked}
use Rattle.njh_spool.proofs.ChainPlaces.{on_ends, len_on, used_on}
use Rattle.njh_spool.proofs.store.BlockStore.add_next.Goals as goal

pub insert_reserved-key-requires : goal.insert_reserved-key-requires
insert_reserved-key-requires c =
    let used =
    used_is c.self.inside.blocks c.self.inside.chains.items c.self.inside.capacity c.args.self.now c.self.invariant
    c.self.view_is in
    omega (arith, used.0, used.1, c.requires.room, c.self.invariant.room)

pub link-requires : goal.link-requires
link-requires c =
    let on = on_ends c.self.inside c.args.self.now c.args.chain c.index-old.result.now c.self.invariant c.self.view_is
    c.requires.chain
    (sym c.index-old.ensures) in
    let updates = subst (λ (b : SpoolBlock). Updates c.self.inside.blocks c.insert_reserved-key.new.self
    c.insert_reserved-key.result (Some b))
    c.of.ensures c.insert_reserved-key.ensures.updates in
    let used = used_on on in
    let free : slab_len c.self.inside.blocks < c.self.inside.capacity =
    omega (arith, used.0, used.1, c.requires.room) in
    let size = len_on on in
    let filled : on.ends.len ≡ 252 * blocks_for on.ends.len = omega (arith, size, c.requires.filled) in
    let any : 0 < on.ends.len = omega (arith, size, c.requires.more) in
    has_last_block on
    c.insert_reserved-key.new.self c.insert_reserved-key.result c.args.bytes.now c.requires.some c.requires.short
    c.insert_reserved-key.ensures.was_vacant updates c.insert_reserved-key.ensures.len
    c.insert_reserved-key.ensures.capacity free filled any

pub overflow_add-old : goal.overflow_add-old
overflow_add-old c =
    let on = on_ends c.self.inside c.args.self.now c.args.chain c.index-old.result.now c.self.invariant c.self.view_is
    c.requires.chain
    (sym c.index-old.ensures) in
    let updates = subst (λ (b : SpoolBlock). Updates c.self.inside.blocks c.insert_reserved-key.new.self
    c.insert_reserved-key.result (Some b))
    c.of.ensures c.insert_reserved-key.ensures.updates in
    let used = used_on on in
    let free : slab_len c.self.inside.blocks < c.self.inside.capacity =
    omega (arith, used.0, used.1, c.requires.room) in
    let size = len_on on in
    let filled : on.ends.len ≡ 252 * blocks_for on.ends.len = omega (arith, size, c.requires.filled) in
    let any : 0 < on.ends.len = omega (arith, size, c.requires.more) in
    let fits = fits_longer on
    c.insert_reserved-key.new.self c.insert_reserved-key.result c.args.bytes.now c.requires.some c.requires.short
    c.insert_reserved-key.ensures.was_vacant updates c.insert_reserved-key.ensures.len
    c.insert_reserved-key.ensures.capacity free filled any in
    omega arith

pub invariant_of-self : goal.invariant_of-self
invariant_of-self c =
    let on = on_ends c.self.inside c.args.self.now c.args.chain c.index-old.result.now c.self.invariant c.self.view_is
    c.requires.chain
    (sym c.index-old.ensures) in
    let updates = subst (λ (b : SpoolBlock). Updates c.self.inside.blocks c.insert_reserved-key.new.self
    c.insert_reserved-key.result (Some b))
    c.of.ensures c.insert_reserved-key.ensures.updates in
    let used = used_on on in
    let free : slab_len c.self.inside.blocks < c.self.inside.capacity =
    omega (arith, used.0, used.1, c.requires.room) in
    let size = len_on on in
    let filled : on.ends.len ≡ 252 * blocks_for on.ends.len = omega (arith, size, c.requires.filled) in
    let any : 0 < on.ends.len = omega (arith, size, c.requires.more) in
    rw c.link.ensures (linked on
    c.insert_reserved-key.new.self c.insert_reserved-key.result c.args.bytes.now c.requires.some c.requires.short
    c.insert_reserved-key.ensures.was_vacant updates c.insert_reserved-key.ensures.len
    c.insert_reserved-key.ensures.capacity free filled any)

pub returns : goal.returns
returns c =
    let on = on_ends c.self.inside c.args.self.now c.args.chain c.index-old.result.now c.self.invariant c.self.view_is
    c.requires.chain
    (sym c.index-old.ensures) in
    let updates = subst (λ (b : SpoolBlock). Updates c.self.inside.blocks c.insert_reserved-key.new.self
    c.insert_reserved-key.result (Some b))
    c.of.ensures c.insert_reserved-key.ensures.updates in
    let used = used_on on in
    let free : slab_len c.self.inside.blocks < c.self.inside.capacity =
    omega (arith, used.0, used.1, c.requires.room) in
    let size = len_on on in
    let filled : on.ends.len ≡ 252 * blocks_for on.ends.len = omega (arith, size, c.requires.filled) in
    let any : 0 < on.ends.len = omega (arith, size, c.requires.more) in
    rw c.link.ensures (grows_linked on c.insert_reserved-key.new.self c.insert_reserved-key.result c.args.bytes.now
    c.requires.some
    c.requires.short c.insert_reserved-key.ensures.was_vacant updates c.insert_reserved-key.ensures.len
    c.insert_reserved-key.ensures.capacity free filled any c.requires.chain)
