use Rattle.std.proofs.Common.{◌∙◌, List, ap, subst, sym}
use Rattle.njh_service.specs.Bureaus.{Attended}
use Rattle.njh_lines.specs.LineStates.{line_settled, AreMade, NoneDrains}
use Rattle.njh_lines.specs.Watching.{ServedLine}
use Rattle.njh_service.proofs.bureau.Bureau.end_round.Goals as goal

-- no line drains that didn't
pub invariant_of-self : goal.invariant_of-self
invariant_of-self g c = λ is.
    subst (λ (lines : List ServedLine). NoneDrains lines) (sym c.end_round.ensures.lines) (c.self.invariant is)

pub returns-clause-lines : goal.returns-clause-lines
returns-clause-lines g c =
    let Lines : Attended g.row.N-Visitor.Denot → List ServedLine = λ seen. seen.exchange.lines in
    let Made : List ServedLine → List ServedLine → Type 0 = λ old new. AreMade (line_settled c.args.hub.now) old new in
    subst (λ (new : List ServedLine). Made c.args.self.now.exchange.lines new) (sym (ap Lines c.self-2.view_is))
    (subst (λ (old : List ServedLine). Made old c.settle.new.self.exchange.lines)
    (c.end_round.ensures.lines ∙ ap Lines c.self.view_is) c.settle.ensures.lines)
