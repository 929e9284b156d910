use Rattle.std.proofs.Common.{◌≡◌, ◌-◌, map}
use Rattle.std.specs.List.{range_with_len}
use Rattle.serde_json.specs.View.{view}
use Rattle.njh_answer.specs.Customers.{customer_told}
use Rattle.njh_answer.proofs.customers.customer_values.Given as goal

abbrev pub invariant-loop-customer : goal.invariant-loop-customer
invariant-loop-customer l =
    map view l.values.items
    ≡ map (customer_told l.views.tables.now l.views.hub.now l.views.arrivals.now l.views.lines.now)
    (range_with_len l.fn.page.first (l.customer - l.fn.page.first))
