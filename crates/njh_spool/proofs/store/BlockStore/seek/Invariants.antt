use Rattle.std.proofs.Common.{◌*◌, ◌≤◌, ◌-◌}
use Rattle.njh_spool.specs.code.Chains.{chain_at, IsBlockOf}
use Rattle.njh_spool.proofs.store.BlockStore.seek.Given as goal

abbrev pub invariant-loop-block : goal.invariant-loop-block
invariant-loop-block l = IsBlockOf (chain_at l.chain l.self).keys l.block × (252 * l.block.index ≤ l.place)

abbrev pub decreases-loop-block : goal.decreases-loop-block
decreases-loop-block l = l.place - 252 * l.block.index
