use Rattle.std.proofs.Common.{◌≡◌, ◌++◌, take}
use Rattle.njh_check.specs.Warnings.{lines_warnings}
use Rattle.njh_check.proofs.warnings.put_all_lines.Given as goal

abbrev pub invariant-loop-customer : goal.invariant-loop-customer
invariant-loop-customer l =
    l.report.items ≡ l.initial.report.items ++ lines_warnings l.customers (take l.customer-index l.customers)
