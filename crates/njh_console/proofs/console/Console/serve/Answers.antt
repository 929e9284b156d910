use Rattle.std.proofs.Common.{◌≡◌, ◌∙◌, true, List, ap, subst, sym}
use Rattle.njh_console.specs.Acts.{orders_after}
use Rattle.njh_console.specs.Consoles.{AreServed}
use Rattle.njh_console.specs.Seats.{has_room, Seat}
use Rattle.njh_console.proofs.RoomLaws.{served_room}
use Rattle.njh_console.proofs.console.Console.serve.Goals as goal

pub returns-clause-served : goal.returns-clause-served
returns-clause-served g c =
    let before = c.args.self.now in
    let what = c.answer-deed.result in record {
      what = what;
      seats = subst (λ (after : List (Seat g.row.V.Denot)).
          AreServed c.args.situation.now c.args.now before.orders before.seats after what) (sym c.take.ensures.seats)
          c.answer-deed.ensures.seats;
      orders = c.take.ensures.orders ∙ ap (orders_after what) c.answer-deed.ensures.orders;
      asked_is = c.take.ensures.asked;
    }

-- who gives up his seat
pub returns-clause-room : goal.returns-clause-room
returns-clause-room g c =
    let before = c.args.self.now in
    subst (λ (after : List (Seat g.row.V.Denot)). has_room after ≡ true) (sym c.take.ensures.seats)
    (served_room c.args.situation.now c.args.now before.orders before.seats c.answer-deed.new.self.seats
    c.answer-deed.result c.answer-deed.ensures.seats)
