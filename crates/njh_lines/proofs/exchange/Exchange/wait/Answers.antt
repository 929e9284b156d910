use Rattle.njh_lines.proofs.GroupLaws.{other_marks}
use Rattle.njh_lines.proofs.exchange.Exchange.wait.Goals as goal

-- there are as many marks as before
pub invariant_of-self : goal.invariant_of-self
invariant_of-self g c =
    other_marks _ c.self.inside.ready.items c.wait_on.new.ready.items c.self.inside.watches.items
    c.self.inside.groups.items c.self.inside.next c.wait_on.ensures c.self.invariant
