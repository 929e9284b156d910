use Rattle.std.proofs.Common.{◌-◌, ◌*◌, arith}
use Rattle.njh_spool.proofs.ChainPlaces.{key_has}
use Rattle.njh_spool.proofs.ChainWrites.{overwritten, view_overwritten}
use Rattle.njh_spool.proofs.ChainPlaces.{on_chain}
use Rattle.njh_spool.proofs.store.BlockStore.put_part.Goals as goal

pub put-requires-clause-block : goal.put-requires-clause-block
put-requires-clause-block c =
    let on = on_chain c.self.inside c.args.self.now c.args.chain c.self.invariant c.self.view_is c.requires.chain in
    key_has on c.args.block.index
    (omega arith) c.key_of-key.result c.key_of-key.ensures

pub invariant_of-self : goal.invariant_of-self
invariant_of-self c =
    let on = on_chain c.self.inside c.args.self.now c.args.chain c.self.invariant c.self.view_is c.requires.chain in
    rw c.put.ensures (overwritten on c.args.block.index c.key_of-key.result (c.args.place - c.args.block.index * 252)
    c.args.place
    c.args.bytes.now c.key_of-key.ensures (omega arith) (omega arith) c.requires.some c.requires.within)

pub returns : goal.returns
returns c =
    let on = on_chain c.self.inside c.args.self.now c.args.chain c.self.invariant c.self.view_is c.requires.chain in
    rw c.put.ensures (view_overwritten on c.args.block.index c.key_of-key.result
    (c.args.place - c.args.block.index * 252) c.args.place
    c.args.bytes.now c.key_of-key.ensures (omega arith) (omega arith) c.requires.some c.requires.within)
