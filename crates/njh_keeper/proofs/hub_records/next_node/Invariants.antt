use Rattle.{std.proofs.Common.{◌≡◌, ◌≤◌, length, Some, ◌+◌}, njh_keeper.specs.code.Nodes.named_nodes}
use Rattle.njh_keeper.proofs.hub_records.next_node.Given as goal

-- the records that were gone through name none
abbrev pub invariant-loop : goal.invariant-loop
invariant-loop l =
    (named_nodes (Some l.initial.before) l.initial.records ≡ named_nodes (Some l.before) l.records)
    × (length l.records + l.counter ≤ length l.initial.records)
