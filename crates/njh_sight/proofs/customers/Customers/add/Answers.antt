use Rattle.std.proofs.Common.{arith}
use Rattle.njh_sight.specs.Waking.{with_line}
use Rattle.njh_sight.proofs.RowLaws.{no_row, row_made}
use Rattle.njh_sight.proofs.customers.Customers.add.Goals as goal

pub returns-then-own-lt-CUSTOMERS : goal.returns-then-own-lt-CUSTOMERS
returns-then-own-lt-CUSTOMERS c =
    row_made c.args.customer c.from-own.result (with_line c.args.customer c.args.place) c.self.inside.rows
    c.args.self.now c.add.new.self _ c.from-own.ensures c.self.view_is (omega arith) c.add.ensures

pub returns-else-own-lt-CUSTOMERS : goal.returns-else-own-lt-CUSTOMERS
returns-else-own-lt-CUSTOMERS c =
    no_row c.args.customer c.from-own.result (with_line c.args.customer c.args.place) c.self.inside.rows
    c.args.self.now c.from-own.ensures c.self.view_is (omega (arith, c.self.invariant))
