use Rattle.std.proofs.Common.{◌≡◌, ◌++◌, take}
use Rattle.std.specs.List.{flat_map}
use Rattle.njh_check.specs.Reports.{customer_text}
use Rattle.njh_check.proofs.report.put_customers.Given as goal

abbrev pub invariant-loop-customer : goal.invariant-loop-customer
invariant-loop-customer l = l.report.items ≡ l.initial.report.items ++ flat_map customer_text
    (take l.customer-index l.customers)
