use Rattle.njh_service.proofs.BureauLaws.{none_drain}
use Rattle.njh_service.proofs.bureau.Bureau.tell_ready.Goals as goal

-- no line drains that didn't
pub invariant_of-self : goal.invariant_of-self
invariant_of-self g c =
    λ is. none_drain c.self.inside.exchange c.tell_ready.new.exchange c.tell_ready.ensures (c.self.invariant is)
