use Rattle.std.proofs.Common.{List, ap, subst, sym}
use Rattle.njh_lines.specs.LineStates.{NoneDrains}
use Rattle.njh_lines.specs.Watching.{ServedLine, Watched}
use Rattle.njh_service.proofs.bureau.Bureau.know_arrivals.Goals as goal

-- no line drains that didn't
pub invariant_of-self : goal.invariant_of-self
invariant_of-self g c = λ is.
    subst (λ (lines : List ServedLine). NoneDrains lines)
    (sym (ap (λ (seen : Watched). seen.lines) c.know_arrivals.ensures)) (c.self.invariant is)
