use Rattle.std.proofs.Common.{List, ap, subst}
use Rattle.njh_service.specs.Bureaus.{Attended}
use Rattle.njh_lines.specs.LineStates.{line_settled, AreMade}
use Rattle.njh_lines.specs.Watching.{ServedLine}
use Rattle.njh_service.proofs.BureauLaws.{none_settled}
use Rattle.njh_service.proofs.bureau.Bureau.settle.Goals as goal

-- where no line drains all are as a round leaves them
pub returns-then-not-self-clause-lines : goal.returns-then-not-self-clause-lines
returns-then-not-self-clause-lines g c =
    let Lines : Attended g.row.N-Visitor.Denot → List ServedLine = λ seen. seen.exchange.lines in
    let Made : List ServedLine → Type 0 = λ lines. AreMade (line_settled c.args.hub.now) lines lines in
    subst Made (ap Lines c.self.view_is)
    (none_settled c.args.hub.now c.self.inside.exchange.lines (c.self.invariant c.if-not-self.true))

pub returns-clause-lines : goal.returns-clause-lines
returns-clause-lines g c =
    let Lines : Attended g.row.N-Visitor.Denot → List ServedLine = λ seen. seen.exchange.lines in
    let Made : List ServedLine → Type 0 = λ old.
    AreMade (line_settled c.args.hub.now) old c.settle-self-inside.new.self.lines in
    subst Made (ap Lines c.self.view_is) c.settle-self-inside.ensures.settled
