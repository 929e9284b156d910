use Rattle.std.proofs.Common.{◌≡◌, map, take}
use Rattle.njh_keeper.proofs.names.names_of.Given as goal

-- the names of so many customers are there
abbrev pub invariant-loop-customer : goal.invariant-loop-customer
invariant-loop-customer l = l.names.items ≡ map (λ c. c.name) (take l.customer-index l.fn.tables.customers)
