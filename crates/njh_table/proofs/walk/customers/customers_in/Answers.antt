use Rattle.std.proofs.Common.{◌+◌, ◌++◌, [], ◌∷◌, drop, ap, sym, ◌∙◌, arith}
use Rattle.toml.specs.View.{view, items_view}
use Rattle.njh_table.specs.TableFile.{owners_from}
use Rattle.njh_table.specs.Walk.{next_customer, customers_onto}
use Rattle.njh_table.proofs.Loops.{turn, goes_on, ends, stops}
use Rattle.njh_table.proofs.walk.customers.customers_in.Goals as goal

pub next_customer-requires : goal.next_customer-requires
next_customer-requires c = c.loop-value.invariant.1 ∙ ap (owners_from 0) (sym c.deref.ensures.value)

pub returns-in_err-customer-clause-walk : goal.returns-in_err-customer-clause-walk
returns-in_err-customer-clause-walk c =
    let done = c.loop-value.customers.items in
    let here = turn c.args.values.now c.loop-value.value-index c.value-item.result c.loop-value-test.true
    c.value-item.is in
    stops _ _ _ _ c.from_residual.ensures.1 (λ no_memory. sym c.loop-value.invariant.0 ∙ ap (customers_onto done) here
    ∙ ends _ _ _ (ap (λ d. next_customer d (view c.value-item.result)) (sym c.deref.ensures.value)
    ∙ c.in_err-customer.ensures.walk no_memory))

pub loop-value-preserved : goal.loop-value-preserved
loop-value-preserved c =
    let done = c.loop-value.customers.items in
    let customer = c.in_ok-customer.customer in
    let rest = items_view (drop (c.loop-value.value-index + 1) c.args.values.now) in
    let here = turn c.args.values.now c.loop-value.value-index c.value-item.result c.loop-value-test.true
    c.value-item.is in
    let next = ap (λ d. next_customer d (view c.value-item.result)) (sym c.deref.ensures.value)
    ∙ c.in_ok-customer.ensures.walk in
    let walked = ap (customers_onto done) here ∙ goes_on _ _ _ next in (
      ap (λ cs. customers_onto cs rest) c.in_ok-push.ensures.items ∙ sym walked ∙ c.loop-value.invariant.0,
      c.in_ok-customer.ensures.owners ∙ ap (λ d. owners_from 0 (d ++ customer ∷ [])) c.deref.ensures.value
          ∙ ap (owners_from 0) (sym c.in_ok-push.ensures.items),
      omega (arith, c.in_ok-push.ensures.len, c.in_ok-customer.ensures.room, c.deref.ensures.len),
    )
