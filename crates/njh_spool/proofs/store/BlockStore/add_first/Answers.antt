use Rattle.std.proofs.Common.{◌≡◌, ◌<◌, Some, subst, arith}
use Rattle.slab.specs.Slab.{slab_len, Updates}
use Rattle.njh_spool.specs.declared.store.spool_block.SpoolBlock.{SpoolBlock}
use Rattle.njh_spool.proofs.ChainLaws.{used_is}
use Rattle.njh_spool.proofs.ChainWrites.{begun, grows_begun}
use Rattle.njh_spool.proofs.ChainPlaces.{on_chain, len_on, used_on}
use Rattle.njh_spool.proofs.store.BlockStore.add_first.Goals as goal

pub insert_reserved-key-requires : goal.insert_reserved-key-requires
insert_reserved-key-requires c =
    let used =
    used_is c.self.inside.blocks c.self.inside.chains.items c.self.inside.capacity c.args.self.now c.self.invariant
    c.self.view_is in
    omega (arith, used.0, used.1, c.requires.room, c.self.invariant.room)

pub invariant_of-self : goal.invariant_of-self
invariant_of-self c =
    let on = on_chain c.self.inside c.args.self.now c.args.chain c.self.invariant c.self.view_is c.requires.chain in
    let updates = subst (λ (b : SpoolBlock). Updates c.self.inside.blocks c.insert_reserved-key.new.self
    c.insert_reserved-key.result (Some b))
    c.of.ensures c.insert_reserved-key.ensures.updates in
    let used = used_on on in
    let free : slab_len c.self.inside.blocks < c.self.inside.capacity =
    omega (arith, used.0, used.1, c.requires.room) in
    let empty : on.ends.len ≡ 0 = omega (arith, len_on on, c.requires.empty) in
    begun on
    c.insert_reserved-key.new.self c.insert_reserved-key.result c.args.bytes.now c.requires.some c.requires.short
    c.insert_reserved-key.ensures.was_vacant updates c.insert_reserved-key.ensures.len
    c.insert_reserved-key.ensures.capacity free empty

pub returns : goal.returns
returns c =
    let on = on_chain c.self.inside c.args.self.now c.args.chain c.self.invariant c.self.view_is c.requires.chain in
    let updates = subst (λ (b : SpoolBlock). Updates c.self.inside.blocks c.insert_reserved-key.new.self
    c.insert_reserved-key.result (Some b))
    c.of.ensures c.insert_reserved-key.ensures.updates in
    let used = used_on on in
    let free : slab_len c.self.inside.blocks < c.self.inside.capacity =
    omega (arith, used.0, used.1, c.requires.room) in
    let empty : on.ends.len ≡ 0 = omega (arith, len_on on, c.requires.empty) in
    grows_begun on
    c.insert_reserved-key.new.self c.insert_reserved-key.result c.args.bytes.now c.requires.some c.requires.short
    c.insert_reserved-key.ensures.was_vacant updates c.insert_reserved-key.ensures.len
    c.insert_reserved-key.ensures.capacity free empty c.requires.chain
