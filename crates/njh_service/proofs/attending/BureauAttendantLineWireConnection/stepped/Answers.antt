use Rattle.std.proofs.Common.{List, subst, sym}
use Rattle.njh_lines.specs.LineStates.{NoneDrains}
use Rattle.njh_lines.specs.Watching.{ServedLine}
use Rattle.njh_service.proofs.attending.BureauAttendantLineWireConnection.stepped.Goals as goal

-- no line drains that didn't
pub invariant_of-self : goal.invariant_of-self
invariant_of-self g c = λ is.
    subst (λ (lines : List ServedLine). NoneDrains lines) (sym c.follow.ensures.lines) (c.self.invariant is)
