use Rattle.std.proofs.Common.{◌≡◌, ◌+◌, ◌*◌, ◌≤◌, drop}
use Rattle.toml.specs.View.{items_view}
use Rattle.njh_check.specs.Reasons.{quotas_of}
use Rattle.njh_check.proofs.reasons.quotas_of.Given as goal

abbrev pub invariant-loop-customer : goal.invariant-loop-customer
invariant-loop-customer l =
    (l.sum + quotas_of (items_view (drop l.customer-index l.customers)) ≡ quotas_of (items_view l.customers))
    × (l.sum ≤ 4294967295 * l.customer-index)
