use Rattle.std.proofs.Common.{◌≡◌, ◌+◌, ◌≤◌, ◌-◌, length}
use Rattle.njh_record.specs.Bytes.{field}
use Rattle.njh_spool.specs.code.Chains.{chain_at, IsBlockOf, IsNear}
use Rattle.njh_spool.proofs.store.BlockStore.read.Given as goal

abbrev pub invariant-loop-into : goal.invariant-loop-into
invariant-loop-into l =
    (length l.into.items ≤ l.n) × (l.into.items ≡ field l.place (length l.into.items) (chain_at l.chain l.self).bytes)
    × IsBlockOf
    (chain_at l.chain l.self).keys l.block × IsNear l.block (l.place + length l.into.items)

abbrev pub decreases-loop-into : goal.decreases-loop-into
decreases-loop-into l = l.n - length l.into.items
