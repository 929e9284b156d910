use Rattle.std.proofs.Common.{length, sym, ap, ◌∙◌}
use Rattle.njh_spool.proofs.ChainKeys.{length-keys_from}
use Rattle.njh_spool.specs.code.Chains.{blocks_for}
use Rattle.njh_spool.proofs.ChainPlaces.{on_ends, len_on, keys_on}
use Rattle.njh_spool.proofs.store.BlockStore.len.Goals as goal

pub returns-clause-bytes : goal.returns-clause-bytes
returns-clause-bytes c =
    let on = on_ends c.self.inside c.args.self.now c.args.chain c.index.result.now c.self.invariant c.self.view_is
    c.requires
    (sym c.index.ensures) in
    sym (len_on on)

pub returns-clause-blocks : goal.returns-clause-blocks
returns-clause-blocks c =
    let on = on_ends c.self.inside c.args.self.now c.args.chain c.index.result.now c.self.invariant c.self.view_is
    c.requires
    (sym c.index.ensures) in
    ap length (keys_on on) ∙ length-keys_from c.self.inside.blocks (blocks_for on.ends.len) on.ends.head
