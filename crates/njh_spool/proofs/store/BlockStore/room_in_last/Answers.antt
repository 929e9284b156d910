use Rattle.std.proofs.Common.{sym, arith}
use Rattle.njh_spool.proofs.ChainPlaces.{on_ends, len_on}
use Rattle.njh_spool.proofs.store.BlockStore.room_in_last.Goals as goal

pub returns : goal.returns
returns c =
    let on = on_ends c.self.inside c.args.self.now c.args.chain c.index.result.now c.self.invariant c.self.view_is
    c.requires
    (sym c.index.ensures) in
    let size = len_on on in
    omega (arith, c.div_ceil.ensures)
