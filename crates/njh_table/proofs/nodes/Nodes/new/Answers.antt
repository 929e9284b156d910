use Rattle.njh_table.proofs.BucketLaws.{indexed_none}
use Rattle.njh_table.proofs.nodes.Nodes.new.Goals as goal

pub invariant_of-result : goal.invariant_of-result
invariant_of-result c =
    indexed_none c.new.result.items c.new-2.result.items c.no_ends.result c.new.ensures c.new-2.ensures
    c.no_ends.ensures
