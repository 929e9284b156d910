use Rattle.njh_table.proofs.BucketLaws.{IsLeft}
use Rattle.njh_table.proofs.nodes.is_among.Given as goal

abbrev pub invariant-loop-count : goal.invariant-loop-count
invariant-loop-count l = IsLeft l.names l.name l.count

abbrev pub decreases-loop-count : goal.decreases-loop-count
decreases-loop-count l = l.count
