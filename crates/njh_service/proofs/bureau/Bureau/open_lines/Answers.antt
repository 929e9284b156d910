use Rattle.std.proofs.Common.{◌++◌, ◌∙◌, List, ap, map, sym}
use Rattle.std.proofs.lemmas.Bool.{false≢true}
use Rattle.std.proofs.lemmas.Result.{IfOk-weaker}
use Rattle.njh_service.specs.Bureaus.{Attended}
use Rattle.njh_lines.specs.Watching.{served_on, ServedLine}
use Rattle.njh_service.proofs.bureau.Bureau.open_lines.Goals as goal

-- one that drains is looked for
pub invariant_of-self : goal.invariant_of-self
invariant_of-self g c = λ is. absurd (false≢true (sym is))

pub returns-clause-served : goal.returns-clause-served
returns-clause-served g c =
    let Lines : Attended g.row.N-Visitor.Denot → List ServedLine = λ seen. seen.exchange.lines in
    IfOk-weaker c.open_lines.result _ _
    (λ endpoints served. served ∙ ap (λ (lines : List ServedLine). lines
    ++ map (served_on c.args.tables.now c.args.listening.address) endpoints.items) (ap Lines c.self.view_is))
    c.open_lines.ensures.served
