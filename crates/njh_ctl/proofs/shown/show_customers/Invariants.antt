use Rattle.std.proofs.Common.{map, take}
use Rattle.serde_json.specs.View.{view}
use Rattle.njh_ctl.proofs.RowLaws.{HasRows}
use Rattle.njh_ctl.specs.Shown.{IsCustomerRow}
use Rattle.njh_ctl.proofs.shown.show_customers.Given as goal

abbrev pub invariant-loop-customer : goal.invariant-loop-customer
invariant-loop-customer l = HasRows IsCustomerRow (map view (take l.customer-index l.customers)) l.fn.out l.out
