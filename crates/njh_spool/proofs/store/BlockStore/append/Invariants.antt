use Rattle.std.proofs.Common.{length}
use Rattle.njh_spool.proofs.ChainValues.{Appends}
use Rattle.njh_spool.proofs.store.BlockStore.append.Given as goal

abbrev pub invariant-loop-left : goal.invariant-loop-left
invariant-loop-left l = Appends l.chain l.bytes l.left l.fn.self l.self

abbrev pub decreases-loop-left : goal.decreases-loop-left
decreases-loop-left l = length l.left
