use Rattle.std.proofs.Common.{rules}
use Rattle.njh_anteroom.proofs.QueueLaws.{queue_renewed}
use Rattle.njh_anteroom.proofs.queue.Queue.renew.Goals as goal

pub invariant_of-self : goal.invariant_of-self
invariant_of-self g c =
    let fits = rw (← c.self.view_is) at c.requires in
    (queue_renewed c.self.inside.guests.items c.args.place c.args.guest c.self.invariant.0 fits.1, search rules)
