use Rattle.std.proofs.Common.{◌≡◌, map, take}
use Rattle.njh_hub.specs.Parts.{quota_in}
use Rattle.njh_hub.proofs.opening.quotas_of.Given as goal

-- the quotas of so many customers are there
abbrev pub invariant-loop-customer : goal.invariant-loop-customer
invariant-loop-customer l = l.quotas.items ≡ map quota_in (take l.customer-index l.fn.tables.customers)
