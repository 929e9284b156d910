use Rattle.njh_customer.proofs.Words
use Words.{length, ap, sym, Customer, customer_after_order, customer_with, entry_of, customer_at, spool_at}
use Rattle.{std.proofs.Common.{◌∙◌}, njh_customer.proofs.LineWalks.{lines_of, order_keeps}}
use Rattle.njh_customer.proofs.lines.Lines.order.Goals as goal

pub invariant_of-self : goal.invariant_of-self
invariant_of-self c =
    let n = c.args.customer in
    let before : Customer =
    customer_with (entry_of (customer_at c.args.tables.now n)) (spool_at n c.args.spool.now) c.self.inside.lines in
    let after = customer_after_order c.args.order.now before in
    c.self.invariant ∙ sym (ap (λ (d : Customer). length d.lines) c.order.ensures.after
    ∙ lines_of before after (order_keeps c.args.order.now before))
