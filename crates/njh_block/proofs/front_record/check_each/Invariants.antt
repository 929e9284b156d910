use Rattle.std.proofs.Common.{◌≡◌, length}
use Rattle.njh_block.specs.Blocks.{items_in}
use Rattle.njh_block.proofs.ReadingLaws.{fault_in}
use Rattle.njh_block.proofs.front_record.check_each.Given as goal

abbrev pub invariant-loop-after : goal.invariant-loop-after
invariant-loop-after l = fault_in (items_in l.rest) ≡ fault_in (items_in l.fn.bytes)

abbrev pub decreases-loop-after : goal.decreases-loop-after
decreases-loop-after l = length l.rest
