use Rattle.std.proofs.Common.{◌≡◌, ◌++◌, length}
use Rattle.njh_decode.specs.Frames.{record_lines}
use Rattle.njh_decode.proofs.frames.put_records.Given as goal

abbrev pub invariant-loop-item : goal.invariant-loop-item
invariant-loop-item l =
    l.lines.items ++ record_lines l.fn.hex l.block.items ≡ l.fn.lines.items ++ record_lines l.fn.hex l.fn.block.items

abbrev pub decreases-loop-item : goal.decreases-loop-item
decreases-loop-item l = length l.block.items
