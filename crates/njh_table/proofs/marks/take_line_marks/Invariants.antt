use Rattle.std.proofs.Common.{◌≡◌, ◌++◌, false, map, take, drop}
use Rattle.njh_table.specs.Marks.{line_marked}
use Rattle.njh_table.proofs.marks.take_line_marks.Given as goal

abbrev pub invariant-loop-index : goal.invariant-loop-index
invariant-loop-index l = l.lines.items ≡ map (line_marked false) (take l.index l.initial.lines.items) ++ drop l.index
    l.initial.lines.items
