use Rattle.std.proofs.Common.{◌≡◌, map, take}
use Rattle.njh_replay.proofs.files.customer_names.Given as goal

abbrev pub invariant-loop-customer : goal.invariant-loop-customer
invariant-loop-customer l = l.names.items ≡ map (λ customer. customer.name) (take l.customer-index l.customer-items)
