-- What of a list of events is one customer's, and what of the frames that were sent.
use Rattle.std.specs.Prelude.{ℕ, zero, suc, List, [], ◌∷◌, ◌++◌, ◌==◌, cond, take, length, Option, Some, None}
use Rattle.std.specs.Prelude.{slice_get}
use Rattle.njh_table.specs.declared.LineId.{LineId}
use Rattle.njh_table.specs.declared.new_routes.GivenRoute.{GivenRoute}
use Rattle.njh_table.specs.NewRoutes.{new_routes_of}
use Rattle.njh_hub.specs.declared.event.Event.{Event}
use Rattle.njh_hub.specs.declared.event.Event.TheVariants.{Bytes, Tick, Garbled, Lost, Routes, Order}
use Rattle.njh_customer.specs.declared.given_order.GivenOrder.{GivenOrder}
use Rattle.njh_customer.specs.declared.signal.Signal.{Signal}
use Rattle.njh_customer.specs.declared.signal.Signal.TheVariants as signal
use Rattle.njh_customer.specs.Runs.{OwnEvent, OwnBytes, OwnSignal, OwnRoutes, OwnOrder}

-- the customer whose event it is: that of its line, or the one that is given routes or an order
abbrev pub customer_of_event : Event → ℕ
customer_of_event (Bytes id piece) = id.customer
customer_of_event (Tick id) = id.customer
customer_of_event (Garbled id) = id.customer
customer_of_event (Lost id) = id.customer
customer_of_event (Routes c routes) = c
customer_of_event (Order c order) = c

-- the line that it comes on; new routes and orders come on none
abbrev pub line_of_event : Event → Option LineId
line_of_event (Bytes id piece) = Some id
line_of_event (Tick id) = Some id
line_of_event (Garbled id) = Some id
line_of_event (Lost id) = Some id
line_of_event (Routes c routes) = None
line_of_event (Order c order) = None

-- the customer that is given routes, and these
abbrev pub routes_of : Event → Option (ℕ × List GivenRoute)
routes_of (Bytes id piece) = None
routes_of (Tick id) = None
routes_of (Garbled id) = None
routes_of (Lost id) = None
routes_of (Routes c routes) = Some (c, routes)
routes_of (Order c order) = None

-- the customer that is given an order, and this
abbrev pub order_of : Event → Option (ℕ × GivenOrder)
order_of (Bytes id piece) = None
order_of (Tick id) = None
order_of (Garbled id) = None
order_of (Lost id) = None
order_of (Routes c routes) = None
order_of (Order c order) = Some (c, order)

-- the customer that is given something: routes, or an order
abbrev pub given_to : Event → Option ℕ
given_to (Bytes id piece) = None
given_to (Tick id) = None
given_to (Garbled id) = None
given_to (Lost id) = None
given_to (Routes c routes) = Some c
given_to (Order c order) = Some c

-- the event of a signal on a line
abbrev pub event_by : Signal → LineId → Event
event_by signal.Tick id = Tick id
event_by signal.Garbled id = Garbled id
event_by signal.Lost id = Lost id

-- the event as its customer sees it: a line by its number within the customer, and any other line as none
abbrev pub own : Event → OwnEvent
own (Bytes id piece) = OwnBytes id.number piece
own (Tick id) = OwnSignal signal.Tick id.number
own (Garbled id) = OwnSignal signal.Garbled id.number
own (Lost id) = OwnSignal signal.Lost id.number
own (Routes c routes) = OwnRoutes (new_routes_of c routes)
own (Order c order) = OwnOrder order

-- the events of customer c, in order
abbrev pub events_of : ℕ → List Event → List OwnEvent
events_of c [] = []
events_of c (event ∷ events) = cond (customer_of_event event == c) (own event ∷ events_of c events) (events_of c events)

-- what was sent on the lines of customer c, in order
abbrev pub sent_to : ℕ → List (LineId × List ℕ) → List (ℕ × List ℕ)
sent_to c [] = []
sent_to c (pair ∷ pairs) = cond (pair.0.customer == c) ((pair.0.number, pair.1) ∷ sent_to c pairs) (sent_to c pairs)

-- how many bytes an event brings
abbrev pub bytes_in_event : Event → ℕ
bytes_in_event (Bytes id piece) = length piece
bytes_in_event (Tick id) = 0
bytes_in_event (Garbled id) = 0
bytes_in_event (Lost id) = 0
bytes_in_event (Routes c routes) = 0
bytes_in_event (Order c order) = 0

-- the first bytes of an event, if there are any
abbrev pub first_bytes : Option Event → ℕ → List Event
first_bytes event zero = []
first_bytes None (suc n) = []
first_bytes (Some (Bytes id piece)) (suc n) = Bytes id (take (suc n) piece) ∷ []
first_bytes (Some (Tick id)) (suc n) = []
first_bytes (Some (Garbled id)) (suc n) = []
first_bytes (Some (Lost id)) (suc n) = []
first_bytes (Some (Routes c routes)) (suc n) = []
first_bytes (Some (Order c order)) (suc n) = []

-- the first so many events, and then the first so many bytes of the next
abbrev pub first_events : List Event → ℕ → ℕ → List Event
first_events events whole bytes = take whole events ++ first_bytes (slice_get events whole) bytes
