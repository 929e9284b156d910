use Rattle.njh_customer.proofs.Words
use Words.{List, length, ap, arith, get_or_past, sym, CustomerLine, no_customer_line}
use Rattle.{std.proofs.Common.{◌≤◌}, njh_line.specs.Lines.has_message_room}
use Rattle.njh_customer.proofs.customer_lines.CustomerLines.has_message_room.Goals as goal

-- a line that isn't there has no messages
pub returns-then-from-len : goal.returns-then-from-len
returns-then-from-len c =
    let lines = c.args.self.now in
    let past : length lines ≤ c.args.line = omega (arith, ap (λ (xs : List CustomerLine). length xs) c.self.view_is) in
    sym (ap (λ (x : CustomerLine). has_message_room x.state) (get_or_past lines c.args.line no_customer_line past))
