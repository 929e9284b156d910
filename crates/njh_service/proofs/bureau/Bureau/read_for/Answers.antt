use Rattle.std.proofs.Common.{Option, ◌∙◌, ap, subst}
use Rattle.njh_answer.specs.Tickets.{is_late}
use Rattle.njh_answer.specs.declared.orders.Outcome.{Outcome}
use Rattle.njh_console.specs.Orders.{lapsed}
use Rattle.njh_console.specs.Seats.{is_last_gone}
use Rattle.njh_service.specs.Bureaus.{Attended, IsReadFor}
use Rattle.njh_service.proofs.bureau.Bureau.read_for.Goals as goal

-- it lapsed
pub returns-in-Some-clause-read : goal.returns-in-Some-clause-read
returns-in-Some-clause-read g c =
    let A : Type 0 = Attended g.row.N-Visitor.Denot in
    let Lapsed : A → Option Outcome =
    λ seen. lapsed (is_last_gone seen.console.seats) (is_late seen.clock c.args.ticket.terms) in
    subst (λ (lapse : Option Outcome). IsReadFor g.row.S-Fault.Denot g.S.TableSource.gives c.args.ticket lapse
    c.args.self.now c.note.new.self)
    (c.in-Some.ensures ∙ ap Lapsed c.self.view_is) c.note.ensures.noted

-- tables are read
pub returns-in-None-clause-read : goal.returns-in-None-clause-read
returns-in-None-clause-read g c =
    let A : Type 0 = Attended g.row.N-Visitor.Denot in
    let Lapsed : A → Option Outcome =
    λ seen. lapsed (is_last_gone seen.console.seats) (is_late seen.clock c.args.ticket.terms) in
    subst (λ (lapse : Option Outcome). IsReadFor g.row.S-Fault.Denot g.S.TableSource.gives c.args.ticket lapse
    c.args.self.now c.read_noted.new.self)
    (c.in-None.ensures ∙ ap Lapsed c.self.view_is) c.read_noted.ensures.read
