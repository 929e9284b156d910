use Rattle.std.proofs.Common.{◌∙◌, sym, arith}
use Rattle.njh_answer.proofs.Telling.{customers_more, value_more}
use Rattle.njh_answer.proofs.customers.customer_values.Goals as goal

pub loop-customer-preserved : goal.loop-customer-preserved
loop-customer-preserved c =
    value_more _ _ _ _ _ c.in_ok-push.ensures.items c.loop-customer.invariant c.in_ok-customer_value.ensures
    ∙ sym (customers_more c.args.views.now.tables.now c.args.views.now.hub.now c.args.views.now.arrivals.now
    c.args.views.now.lines.now c.args.page.first c.loop-customer.customer (omega arith))
