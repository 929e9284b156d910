use Rattle.std.proofs.Common.{◌∙◌, ap, subst}
use Rattle.njh_sight.specs.Waking.{marked, IsRowMade}
use Rattle.njh_lines.specs.Watching.{Watched}
use Rattle.njh_lines.proofs.exchange.Exchange.mark_if.Goals as goal

pub returns-clause-marks : goal.returns-clause-marks
returns-clause-marks g c = λ come.
    subst (λ (seen : Watched). IsRowMade c.args.customer marked seen.customers c.mark_if.new.self) c.self.view_is
    (c.mark_if.ensures.marks come)

pub returns-clause-none : goal.returns-clause-none
returns-clause-none g c = λ none.
    c.mark_if.ensures.same none ∙ ap (λ (seen : Watched). seen.customers) c.self.view_is
