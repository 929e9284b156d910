use Rattle.std.proofs.Common.{◌≡◌, ◌==◌, Bool, None, Some, arith, ap, sym, ◌∙◌}
use Rattle.std.specs.List.{find}
use Rattle.njh_table.specs.TableFile.{NamedLine}
use Rattle.njh_check.proofs.Ports.{first_found, first_later}
use Rattle.njh_check.proofs.warnings.first_on.Goals as goal

pub returns-in-Some : goal.returns-in-Some
returns-in-Some c =
    let on : NamedLine → Bool = λ l. l.port == c.args.port in
    let found : find on c.customer-item.result.lines ≡ Some c.in-Some.line.now =
    ap (find on) (sym c.lines.ensures) ∙ sym c.in-Some.ensures in
    sym (first_found c.args.port c.loop-customer.customer-index c.args.customers.now c.customer-item.result
    c.in-Some.line.now (omega arith) c.customer-item.is found)
    ∙ c.loop-customer.invariant

pub loop-customer-preserved : goal.loop-customer-preserved
loop-customer-preserved c =
    let on : NamedLine → Bool = λ l. l.port == c.args.port in
    let none : find on c.customer-item.result.lines ≡ None =
    ap (find on) (sym c.lines.ensures) ∙ sym c.in-None.ensures in
    sym (first_later c.args.port c.loop-customer.customer-index c.args.customers.now c.customer-item.result
    (omega arith) c.customer-item.is none)
    ∙ c.loop-customer.invariant
