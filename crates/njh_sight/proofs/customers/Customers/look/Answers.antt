use Rattle.std.proofs.Common.{arith, refl}
use Rattle.njh_sight.specs.Waking.{looked}
use Rattle.njh_sight.specs.declared.customers.Row.{Row}
use Rattle.njh_sight.proofs.RowLaws.{no_row, row_made}
use Rattle.njh_sight.proofs.customers.Customers.look.Goals as goal

pub returns-then-customer-lt-CUSTOMERS : goal.returns-then-customer-lt-CUSTOMERS
returns-then-customer-lt-CUSTOMERS c =
    row_made c.args.customer c.args.customer (λ (row : Row). looked row c.args.now c.args.files) c.self.inside.rows
    c.args.self.now c.look.new.self _ refl c.self.view_is (omega arith) c.look.ensures

pub returns-else-customer-lt-CUSTOMERS : goal.returns-else-customer-lt-CUSTOMERS
returns-else-customer-lt-CUSTOMERS c =
    no_row c.args.customer c.args.customer (λ (row : Row). looked row c.args.now c.args.files) c.self.inside.rows
    c.args.self.now refl c.self.view_is (omega (arith, c.self.invariant))
