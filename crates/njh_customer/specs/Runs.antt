-- One customer's part of a hub, alone, over a list of its own events.
use Rattle.std.specs.Prelude.{ℕ, List, [], ◌∷◌, ◌++◌}
use Rattle.njh_table.specs.NewRoutes.{NewRoute}
use Rattle.njh_customer.specs.declared.signal.Signal.{Signal}
use Rattle.njh_customer.specs.Feeding.{bytes_run, sent_on}
use Rattle.njh_customer.specs.NewRoutes.{routes_given}
use Rattle.njh_customer.specs.Orders.{part_after_order}
use Rattle.njh_customer.specs.Part.{Part, rest_on, with_rest, part_after_signal}
use Rattle.njh_customer.specs.declared.given_order.GivenOrder.{GivenOrder}

-- an event on a line, by the line's number within its customer, or new routes or an order for the customer
pub data OwnEvent : Type 0 where
  OwnBytes : (line : ℕ) (piece : List ℕ) → OwnEvent
  OwnSignal : (signal : Signal) (line : ℕ) → OwnEvent
  OwnRoutes : (routes : List NewRoute) → OwnEvent
  OwnOrder : (order : GivenOrder) → OwnEvent

pub record Run : Type 0 where
  pub after : Part
  pub sent : List (ℕ × List ℕ)  -- frames in order, each with its line

abbrev pub event_run : Part → OwnEvent → Run
event_run p (OwnBytes l piece) =
    let r = bytes_run (rest_on l p) p.customer l piece in
    record { after = record { rests = with_rest l r.rest p; customer = r.after }; sent = r.sent }
event_run p (OwnSignal signal l) =
    let x = part_after_signal p l signal in
    record { after = x.after; sent = sent_on l x.frame }
event_run p (OwnRoutes routes) = record { after = routes_given routes p; sent = [] }
event_run p (OwnOrder order) = record { after = part_after_order order p; sent = [] }

abbrev pub alone_run : Part → List OwnEvent → Run
alone_run p [] = record { after = p; sent = [] }
alone_run p (event ∷ events) =
    let x = event_run p event in
    let later = alone_run x.after events in
    record { after = later.after; sent = x.sent ++ later.sent }
