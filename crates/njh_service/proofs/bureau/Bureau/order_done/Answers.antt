use Rattle.std.proofs.Common.{◌∙◌, ap, subst}
use Rattle.njh_console.specs.Orders.{IsOrderDone, TakenOrders}
use Rattle.njh_sight.specs.Waking.{marked, IsRowMade}
use Rattle.njh_lines.specs.Watching.{Watched}
use Rattle.njh_service.specs.Bureaus.{Attended}
use Rattle.njh_service.proofs.BureauLaws.{none_drain}
use Rattle.njh_service.proofs.bureau.Bureau.order_done.Goals as goal

-- no line drains that didn't
pub invariant_of-self : goal.invariant_of-self
invariant_of-self g c =
    λ is. none_drain _ c.note_order.new.self c.note_order.ensures.same (c.self.invariant is)

-- of the attendant only the customer's own mark may change
pub returns-clause-exchange : goal.returns-clause-exchange
returns-clause-exchange g c =
    let Exchange : Attended g.row.N-Visitor.Denot → Watched = λ seen. seen.exchange in
    c.note_order.ensures.same
    ∙ ap (λ (was : Watched). record was { customers = c.note_order.new.self.customers }) (ap Exchange c.self.view_is)

pub returns-clause-marks : goal.returns-clause-marks
returns-clause-marks g c = λ ok.
    let Exchange : Attended g.row.N-Visitor.Denot → Watched = λ seen. seen.exchange in
    subst (λ (was : Watched). IsRowMade c.args.new.now.customer marked was.customers c.note_order.new.self.customers)
    (ap Exchange c.self.view_is) (c.note_order.ensures.marks ok)

pub returns-clause-none : goal.returns-clause-none
returns-clause-none g c = λ none.
    let Exchange : Attended g.row.N-Visitor.Denot → Watched = λ seen. seen.exchange in
    c.note_order.ensures.none none ∙ ap (λ (was : Watched). was.customers) (ap Exchange c.self.view_is)

pub returns-clause-done : goal.returns-clause-done
returns-clause-done g c =
    let Orders : Attended g.row.N-Visitor.Denot → TakenOrders = λ seen. seen.console.orders in
    subst (λ (orders : TakenOrders). IsOrderDone c.args.answer c.args.replies.now orders c.order_done.new.self.orders)
    (ap Orders c.self.view_is) c.order_done.ensures.done
