use Rattle.{std.proofs.Common.{◌<◌, ◌+◌, length, Some, None}, njh_keeper.proofs.NextNodeLaws.Known}
use Rattle.njh_keeper.specs.code.Nodes.{named_nodes}
use Rattle.njh_keeper.proofs.hub_records.are_mixed.Given as goal

-- the nodes that were named are the first one
abbrev pub invariant-loop : goal.invariant-loop
invariant-loop l =
    Known (named_nodes None l.fn.records) l.initial.first (named_nodes (Some l.before) l.records)
    × (length l.records + l.counter < length l.fn.records)
