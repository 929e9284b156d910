use Rattle.std.proofs.Common.{length, ap, arith, length-drop}
use Rattle.njh_spool.specs.code.Chains.{Chain, chain_at}
use Rattle.njh_spool.proofs.ChainValues.{Only-within, Only-chain, Only-then}
use Rattle.njh_spool.proofs.store.BlockStore.clear.Goals as goal

pub loop-self-smaller : goal.loop-self-smaller
loop-self-smaller c =
    let within = Only-within c.args.chain c.args.self.now c.loop-self.self c.loop-self.invariant c.requires in
    let chain = Only-chain c.args.chain c.loop-self.self c.remove_first.new.self _ within c.remove_first.ensures in
    omega (
      arith,
      ap (λ (x : Chain). length x.bytes) chain,
      length-drop 252 (chain_at c.args.chain c.loop-self.self).bytes,
      c.len.ensures.bytes,
    )

pub loop-self-preserved : goal.loop-self-preserved
loop-self-preserved c =
    Only-then c.args.chain c.args.self.now c.loop-self.self c.remove_first.new.self _ c.loop-self.invariant c.requires
    c.remove_first.ensures
