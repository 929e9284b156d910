use Rattle.std.proofs.Common.{rules, subst, sym}
use Rattle.njh_anteroom.specs.Waiting.{IsQueue}
use Rattle.njh_anteroom.proofs.QueueLaws.{queue_removed}
use Rattle.njh_anteroom.proofs.queue.Queue.take.Goals as goal

pub invariant_of-self : goal.invariant_of-self
invariant_of-self g c = (
  subst IsQueue (sym c.remove.ensures.items)
      (queue_removed c.self.inside.guests.items c.args.place c.self.invariant.0),
  search rules,
)
