use Rattle.std.proofs.Common.{◌≡◌, replicate, vec_capacity}
use Rattle.njh_spool.specs.code.ChainedBlocks.{empty_ends}
use Rattle.njh_spool.proofs.store.chain_ends.empty_chains.Given as goal

abbrev pub invariant-loop-done : goal.invariant-loop-done
invariant-loop-done l = (l.chains.items ≡ replicate l._done empty_ends) × (vec_capacity l.chains ≡ l.count)
