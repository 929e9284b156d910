use Rattle.njh_service.proofs.BureauLaws.{none_drain}
use Rattle.njh_service.proofs.bureau.Bureau.tell_opened.Goals as goal

-- no line drains that didn't
pub invariant_of-self : goal.invariant_of-self
invariant_of-self g c =
    λ is. none_drain c.self.inside.exchange c.tell_opened-self-inside.new.exchange c.tell_opened-self-inside.ensures
    (c.self.invariant is)
