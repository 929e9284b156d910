use Rattle.std.proofs.Common.{◌≡◌, ◌++◌, map, take, drop}
use Rattle.njh_table.specs.Marks.{customer_unmarked}
use Rattle.njh_table.proofs.marks.take_marks.Given as goal

abbrev pub invariant-loop-index : goal.invariant-loop-index
invariant-loop-index l =
    l.customers.items ≡ map customer_unmarked (take l.index l.initial.customers.items) ++ drop l.index
    l.initial.customers.items
