use Rattle.std.proofs.Common.{◌≡◌}
use Rattle.njh_sight.proofs.customers.Customers.count_all.Given as goal

-- the rows are the same
abbrev pub invariant-loop-customer : goal.invariant-loop-customer
invariant-loop-customer l = l.self ≡ l.fn.self
