use Rattle.njh_service.proofs.RevisingLaws.{reread_drains}
use Rattle.njh_service.proofs.attending.BureauAttendantLineWireConnection.new_routes.Goals as goal

-- no line drains that didn't
pub invariant_of-self : goal.invariant_of-self
invariant_of-self g c = λ is.
    reread_drains c.revise.new.revision c.self.inside.exchange.lines c.revise.new.exchange.lines c.revise.ensures.lines
    (c.self.invariant is)
