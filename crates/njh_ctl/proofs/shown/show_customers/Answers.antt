use Rattle.serde_json.specs.View.{view}
use Rattle.njh_ctl.proofs.RowLaws.{HasRows-more, HasRows-none, map_take_more}
use Rattle.njh_ctl.specs.Shown.{IsCustomerRow}
use Rattle.njh_ctl.proofs.shown.show_customers.Goals as goal

pub loop-customer-init : goal.loop-customer-init
loop-customer-init c = HasRows-none IsCustomerRow c.args.out.now

pub loop-customer-preserved : goal.loop-customer-preserved
loop-customer-preserved c =
    HasRows-more IsCustomerRow _ _
    (view c.customer-item.result) c.args.out.now c.loop-customer.out c.show_customer.new.out
    c.loop-customer.invariant c.in_ok-show_customer.ensures.shown
    (map_take_more view c.args.customers.now c.loop-customer.customer-index c.customer-item.result
    c.loop-customer-test.true c.customer-item.is)
