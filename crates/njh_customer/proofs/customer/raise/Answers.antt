-- The mark is a part of the customer's entry.
use Rattle.{std.proofs.Common.{true, sym, ap, ◌∙◌}, njh_table.proofs.MarkLaws.own_entry-marked}
use Rattle.{njh_table.specs.TableFile.{customer_at, entry_of}, njh_customer.proofs.ReadyLaws.retold_marked}
use Rattle.njh_customer.{proofs.ReadyLaws.retold_same, specs.Alone.with_raised_line}
use Rattle.njh_customer.proofs.customer.raise.Goals as goal

pub returns-then-goes_up-clause-entry : goal.returns-then-goes_up-clause-entry
returns-then-goes_up-clause-entry c =
    let id = c.args.id in
    let old = c.args.tables.now in
    ap (λ t. entry_of (customer_at t id.customer)) c.set_up.ensures
    ∙ own_entry-marked old id true c.requires.known
    ∙ ap (λ up. with_raised_line up id.number (entry_of (customer_at old id.customer))) (sym c.if-goes_up.true)

pub returns-then-goes_up-clause-entries : goal.returns-then-goes_up-clause-entries
returns-then-goes_up-clause-entries c = retold_marked c.args.tables.now c.set_up.new.self c.args.id true
    c.requires.known c.set_up.ensures

pub returns-else-goes_up-clause-entries : goal.returns-else-goes_up-clause-entries
returns-else-goes_up-clause-entries c = retold_same c.args.tables.now c.args.id.customer
