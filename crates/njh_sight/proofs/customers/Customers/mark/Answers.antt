use Rattle.std.proofs.Common.{arith}
use Rattle.njh_sight.specs.Waking.{marked}
use Rattle.njh_sight.proofs.RowLaws.{no_row, row_made}
use Rattle.njh_sight.proofs.customers.Customers.mark.Goals as goal

pub returns-then-own-lt-CUSTOMERS : goal.returns-then-own-lt-CUSTOMERS
returns-then-own-lt-CUSTOMERS c =
    row_made c.args.customer c.from-own.result marked c.self.inside.rows
    c.args.self.now c.mark.new.self _ c.from-own.ensures c.self.view_is (omega arith) c.mark.ensures

pub returns-else-own-lt-CUSTOMERS : goal.returns-else-own-lt-CUSTOMERS
returns-else-own-lt-CUSTOMERS c =
    no_row c.args.customer c.from-own.result marked c.self.inside.rows
    c.args.self.now c.from-own.ensures c.self.view_is (omega (arith, c.self.invariant))
