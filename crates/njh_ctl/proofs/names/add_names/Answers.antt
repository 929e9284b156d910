use Rattle.std.proofs.Common.{map}
use Rattle.std.specs.Prelude.{string_bytes}
use Rattle.serde_json.specs.View.{view}
use Rattle.njh_ctl.proofs.RowLaws.{map_take_more}
use Rattle.njh_ctl.proofs.NameLaws.{adds_more, adds_none}
use Rattle.njh_ctl.specs.Asked.{IsName}
use Rattle.njh_ctl.proofs.names.add_names.Goals as goal

pub loop-customer-init : goal.loop-customer-init
loop-customer-init c = adds_none IsName (map string_bytes c.args.names.now.items)

pub loop-customer-preserved : goal.loop-customer-preserved
loop-customer-preserved c =
    adds_more IsName _ _ (view c.customer-item.result) (map string_bytes c.args.names.now.items)
    (map string_bytes c.loop-customer.names.items) (map string_bytes c.add_name.new.names.items)
    c.loop-customer.invariant c.in_ok-add_name.ensures.done
    (map_take_more view c.args.customers.now c.loop-customer.customer-index c.customer-item.result
    c.loop-customer-test.true c.customer-item.is)
