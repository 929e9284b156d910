use Rattle.std.proofs.Common.{◌≡◌, drop}
use Rattle.njh_check.specs.Warnings.{first_on}
use Rattle.njh_check.proofs.warnings.first_on.Given as goal

abbrev pub invariant-loop-customer : goal.invariant-loop-customer
invariant-loop-customer l = first_on l.port (drop l.customer-index l.customers) ≡ first_on l.port l.customers
