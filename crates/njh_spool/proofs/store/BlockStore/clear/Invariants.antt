use Rattle.std.proofs.Common.{length}
use Rattle.njh_spool.specs.code.Chains.{chain_at}
use Rattle.njh_spool.proofs.ChainValues.{Only}
use Rattle.njh_spool.proofs.store.BlockStore.clear.Given as goal

abbrev pub invariant-loop-self : goal.invariant-loop-self
invariant-loop-self l = Only l.chain l.initial.self l.self

abbrev pub decreases-loop-self : goal.decreases-loop-self
decreases-loop-self l = length (chain_at l.chain l.self).bytes
