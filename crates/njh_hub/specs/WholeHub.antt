-- The hub as the list of its customers' parts: an event of one moves that one as if it were alone, and no other.
use Rattle.std.specs.Prelude.{◌≡◌, ℕ, ◌<◌, Bool, true, false, List, [], ◌∷◌, ◌++◌, length, slice_index_or, slice_set}
use Rattle.std.specs.Prelude.{Ok, ⊤, Option, Some, None}
use Rattle.njh_table.specs.declared.LineId.{LineId}
use Rattle.njh_table.specs.Entries.{CustomerEntry}
use Rattle.njh_table.specs.NewRoutes.{new_routes_of, routes_checked}
pub use Rattle.njh_customer.specs.Part.{Part, part_at_open}
use Rattle.njh_customer.specs.Orders.{has_room, has_way}
use Rattle.njh_customer.specs.Runs.{OwnEvent, event_run}
use Rattle.njh_customer.specs.declared.given_order.GivenOrder.{GivenOrder}
use Rattle.njh_hub.specs.declared.fault.HubFault.{HubFault}
use Rattle.njh_hub.specs.declared.fault.HubFault.TheVariants.{NoRoute, QueueFull}
use Rattle.njh_hub.specs.OwnEvents.{customer_of_event, own}
use Rattle.njh_hub.specs.declared.event.Event.{Event}
use Rattle.njh_hub.specs.declared.event.Event.TheVariants.{Bytes, Tick, Garbled, Lost, Routes, Order}

abbrev pub no_entry : CustomerEntry
no_entry = record { hub = []; quota = 0; files = 0; lines = []; up = []; routes = [] }

-- a customer that has no line
abbrev pub no_part : Part
no_part = part_at_open no_entry

-- a customer's part of the hub
abbrev pub part : ℕ → List Part → Part
part c parts = slice_index_or parts c no_part

-- the hub has this line
abbrev pub HasLine : List Part → LineId → Type 0
HasLine parts id = id.number < length (part id.customer parts).customer.lines

-- An event names a line of the hub, or a customer of it, with an order or with routes that aren't refused.
abbrev pub IsNamed : List Part → Event → Type 0
IsNamed parts (Bytes id piece) = HasLine parts id
IsNamed parts (Tick id) = HasLine parts id
IsNamed parts (Garbled id) = HasLine parts id
IsNamed parts (Lost id) = HasLine parts id
IsNamed parts (Routes c routes) =
    (c < length parts) × (routes_checked (part c parts).customer.entry (new_routes_of c routes) ≡ Ok tt)
IsNamed parts (Order c order) = c < length parts

-- each customer has as many lines in both
abbrev pub SameLines : List Part → List Part → Type 0
SameLines old new = (c : ℕ) → length (part c new).customer.lines ≡ length (part c old).customer.lines

-- what a customer sent, with its lines as the hub names them
abbrev pub sent_by : ℕ → List (ℕ × List ℕ) → List (LineId × List ℕ)
sent_by c [] = []
sent_by c (pair ∷ pairs) = (record { customer = c; number = pair.0 }, pair.1) ∷ sent_by c pairs

-- what events lead a whole hub to, and all frames that are sent
pub record HubRun : Type 0 where
  pub parts : List Part
  pub sent : List (LineId × List ℕ)

abbrev pub own_event : List Part → ℕ → OwnEvent → HubRun
own_event parts c event =
    let x = event_run (part c parts) event in
    record { parts = slice_set parts c x.after; sent = sent_by c x.sent }

abbrev pub hub_event : List Part → Event → HubRun
hub_event parts event = own_event parts (customer_of_event event) (own event)

abbrev pub hub_run : List Part → List Event → HubRun
hub_run parts [] = record { parts = parts; sent = [] }
hub_run parts (event ∷ events) =
    let x = hub_event parts event in
    let later = hub_run x.parts events in
    record { parts = later.parts; sent = x.sent ++ later.sent }

-- ---- which orders are refused

-- by whether there is a way, and room
abbrev pub refusal_by : Bool → Bool → Option HubFault
refusal_by false room = Some NoRoute
refusal_by true false = Some QueueFull
refusal_by true true = None

-- Why an order is refused, if it is, by what its customer is: a message goes by no line, or the queue of the line that
-- it goes by is full.
abbrev pub refusal_of : GivenOrder → Part → Option HubFault
refusal_of order p =
    let c = p.customer in
    refusal_by (has_way c.entry order) (has_room c.entry c.lines order)

-- what is said of an order, where the event is one
abbrev pub IfOrder : Event → (ℕ → GivenOrder → Type 0) → Type 0
IfOrder (Bytes id piece) P = ⊤
IfOrder (Tick id) P = ⊤
IfOrder (Garbled id) P = ⊤
IfOrder (Lost id) P = ⊤
IfOrder (Routes c routes) P = ⊤
IfOrder (Order c order) P = P c order

-- an order isn't refused, by what its customer is
abbrev pub IsTaken : List Part → Event → Type 0
IsTaken parts event = IfOrder event (λ c order. refusal_of order (part c parts) ≡ None)

-- each isn't when it comes
abbrev pub AreTaken : List Part → List Event → Type 0
AreTaken parts [] = ⊤
AreTaken parts (event ∷ events) = IsTaken parts event × AreTaken (hub_event parts event).parts events

-- an order of a customer that is there is refused by this fault
abbrev pub IsTurnedAway : List Part → Event → HubFault → Type 0
IsTurnedAway parts event why =
    IfOrder event (λ c order. c < length parts → refusal_of order (part c parts) ≡ Some why)
