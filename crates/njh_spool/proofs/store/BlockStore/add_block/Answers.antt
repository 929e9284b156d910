use Rattle.std.proofs.Common.{arith}
use Rattle.njh_spool.proofs.store.BlockStore.add_block.Goals as goal

pub add_first-requires-clause-empty : goal.add_first-requires-clause-empty
add_first-requires-clause-empty c = omega (arith, c.len.ensures.bytes)
