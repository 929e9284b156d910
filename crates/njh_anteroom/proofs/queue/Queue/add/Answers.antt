use Rattle.std.proofs.Common.{rules, subst, sym}
use Rattle.njh_anteroom.specs.Waiting.{IsQueue}
use Rattle.njh_anteroom.proofs.QueueLaws.{queue_added}
use Rattle.njh_anteroom.proofs.queue.Queue.add.Goals as goal

pub invariant_of-self : goal.invariant_of-self
invariant_of-self g c =
    let before = c.self.inside.guests.items in
    let free = rw (← c.self.view_is) at c.requires in (
      subst IsQueue (sym c.push_reserved.ensures.items)
          (queue_added before c.args.guest c.self.invariant.0 free.0 free.1),
      search rules,
    )
