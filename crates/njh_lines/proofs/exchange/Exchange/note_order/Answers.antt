use Rattle.std.proofs.Common.{◌∙◌, List, ap, subst, sym}
use Rattle.njh_sight.specs.Waking.{marked, IsRowMade}
use Rattle.njh_sight.specs.declared.customers.Row.{Row}
use Rattle.njh_lines.specs.Watching.{Watched}
use Rattle.njh_lines.proofs.exchange.Exchange.note_order.Goals as goal

-- the customer's own lines may have something to send, and it is told after that
pub returns-clause-marks : goal.returns-clause-marks
returns-clause-marks g c = λ ok.
    let Made : List Row → List Row → Type 0 = λ was now. IsRowMade c.args.new.now.customer marked was now in
    subst (Made c.args.self.now.customers) (sym c.tell_order.ensures.customers)
    (subst (λ (seen : Watched). Made seen.customers c.mark_if.new.self) c.self.view_is
    (c.mark_if.ensures.marks (c.is_ok.ensures.value ∙ ok)))

pub returns-clause-none : goal.returns-clause-none
returns-clause-none g c = λ none.
    c.tell_order.ensures.customers
    ∙ (c.mark_if.ensures.same (λ ok. none (sym c.is_ok.ensures.value ∙ ok))
    ∙ ap (λ (seen : Watched). seen.customers) c.self.view_is)
