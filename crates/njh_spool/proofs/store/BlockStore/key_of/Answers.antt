use Rattle.std.proofs.Common.{sym, arith}
use Rattle.njh_spool.proofs.ChainPlaces.{first_key}
use Rattle.njh_spool.proofs.ChainPlaces.{on_ends}
use Rattle.njh_spool.proofs.store.BlockStore.key_of.Goals as goal

pub returns-then-block-eq0 : goal.returns-then-block-eq0
returns-then-block-eq0 c =
    let on = on_ends c.self.inside c.args.self.now c.args.chain c.index.result.now c.self.invariant c.self.view_is
    c.requires.chain
    (sym c.index.ensures) in
    first_key on c.args.block.index c.requires.within (omega arith)
