use Rattle.std.proofs.Common.{arith}
use Rattle.njh_spool.proofs.ChainPlaces.{few, key_has, next_key}
use Rattle.njh_spool.proofs.ChainPlaces.{on_chain, count_on}
use Rattle.njh_spool.proofs.store.BlockStore.next.Goals as goal

pub index-requires : goal.index-requires
index-requires c =
    let on = on_chain c.self.inside c.args.self.now c.args.chain c.self.invariant c.self.view_is c.requires.chain in
    key_has on c.args.block.index
    (omega arith) c.key_of-key.result c.key_of-key.ensures

pub overflow_add-result : goal.overflow_add-result
overflow_add-result c =
    let on = on_chain c.self.inside c.args.self.now c.args.chain c.self.invariant c.self.view_is c.requires.chain in
    omega (arith, few on c.args.block.index (omega arith), count_on on, c.self.invariant.small)

pub returns-clause-block : goal.returns-clause-block
returns-clause-block c =
    let on = on_chain c.self.inside c.args.self.now c.args.chain c.self.invariant c.self.view_is c.requires.chain in
    λ later. next_key on
    c.args.block.index (omega arith) c.key_of-key.result c.key_of-key.ensures c.index.result.now c.index.ensures
    c.requires.within
