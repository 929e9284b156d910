use Rattle.std.proofs.Common.{subst, sym}
use Rattle.njh_anteroom.specs.Waiting.{number_in}
use Rattle.njh_anteroom.specs.code.Seats.{IsFree}
use Rattle.njh_anteroom.proofs.QueueLaws.{free_removed}
use Rattle.njh_anteroom.proofs.queue.Queue.seat.Goals as goal

pub add-requires-in-Displaced : goal.add-requires-in-Displaced
add-requires-in-Displaced g c =
    let fits = rw c.in-Displaced.is at c.requires in (
      c.take.ensures.room,
      subst (IsFree (number_in c.args.guest)) (sym c.take.ensures.rest)
          (free_removed (number_in c.args.guest) c.args.self.now c.in-Displaced.place fits.1),
    )
