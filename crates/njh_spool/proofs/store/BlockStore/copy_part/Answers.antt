use Rattle.std.proofs.Common.{◌≡◌, ◌-◌, ◌*◌, ◌++◌, ap, ◌∙◌, arith, rules}
use Rattle.njh_record.specs.Bytes.{field}
use Rattle.njh_spool.proofs.ChainPlaces.{key_has, part_is}
use Rattle.njh_spool.proofs.ChainPlaces.{on_chain}
use Rattle.njh_spool.proofs.store.BlockStore.copy_part.Goals as goal

pub index-requires : goal.index-requires
index-requires c =
    let on = on_chain c.self.inside c.args.self.now c.args.chain c.self.invariant c.self.view_is c.requires.chain in
    key_has on c.args.block.index
    (omega arith) c.key_of-key.result c.key_of-key.ensures

pub returns : goal.returns
returns c =
    let on = on_chain c.self.inside c.args.self.now c.args.chain c.self.invariant c.self.view_is c.requires.chain in
    let at = c.args.place - c.args.block.index * 252 in
    let part = part_is on
    c.args.block.index (omega arith) c.key_of-key.result c.key_of-key.ensures at c.args.place c.args.n
    c.index.result.now
    c.index.ensures (omega arith) (omega arith) c.requires.within in
    let items : c.try_extend_from_slice.new.self.items ≡ c.args.into.now.items
    ++ field at c.args.n c.index.result.now.bytes =
    search rules in
    items ∙ ap (λ xs. c.args.into.now.items ++ xs) part
