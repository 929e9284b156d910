-- A run in pieces: events none of which is an order, and then one that is.
use Rattle.std.specs.Prelude.{◌≡◌, ◌⊎◌, ℕ, List, Option, Some, None, All}
use Rattle.njh_customer.specs.declared.given_order.GivenOrder.{GivenOrder}
use Rattle.njh_hub.specs.OwnEvents.{order_of}
use Rattle.njh_hub.specs.RunStops.{IsGiven, IsRoutes}
use Rattle.njh_hub.specs.WholeHub.{Part, refusal_of, hub_run}
use Rattle.njh_hub.specs.declared.event.Event.{Event}
use Rattle.njh_hub.specs.declared.fault.HubFault.{HubFault}
use Rattle.njh_hub.specs.declared.fault.HubFault.TheVariants.{UnknownLine, UnknownCustomer, Memory, NoRoute, BadRoutes}
use Rattle.njh_hub.specs.declared.fault.HubFault.TheVariants.{QueueFull}
use Rattle.njh_replay.specs.Printed.{frames_text}
use Rattle.njh_replay.specs.Replayed.{IsSentUpTo}

-- an event that is no order
abbrev pub IsNoOrder : Event → Type 0
IsNoOrder event = order_of event ≡ None

-- Behind these events one may find no memory: it gives routes, or none of them came on a line.
abbrev pub MayBeFirst : List Event → Event → Type 0
MayBeFirst before event = IsRoutes event ⊎ All IsGiven before

-- what is written if the hub's fault stopped a run without orders, which memory alone does
abbrev pub IsFramesShort : (names : List (List (List ℕ))) (parts : List Part) (events : List Event) (why : HubFault)
    (old new : Option (List ℕ)) → Type 0
IsFramesShort names parts events Memory old new =
    IsSentUpTo (λ before. frames_text names (hub_run parts before).sent) events MayBeFirst old new
IsFramesShort names parts events NoRoute old new = ⊥
IsFramesShort names parts events QueueFull old new = ⊥
IsFramesShort names parts events UnknownLine old new = ⊥
IsFramesShort names parts events UnknownCustomer old new = ⊥
IsFramesShort names parts events (BadRoutes cause) old new = ⊥

-- what is written if the hub refused an order, which it does for want of a way or of room alone
abbrev pub IsOrderShort : Part → GivenOrder → (why : HubFault) (old new : Option (List ℕ)) → Type 0
IsOrderShort p order NoRoute old new = (refusal_of order p ≡ Some NoRoute) × (new ≡ old)
IsOrderShort p order QueueFull old new = (refusal_of order p ≡ Some QueueFull) × (new ≡ old)
IsOrderShort p order Memory old new = ⊥
IsOrderShort p order UnknownLine old new = ⊥
IsOrderShort p order UnknownCustomer old new = ⊥
IsOrderShort p order (BadRoutes cause) old new = ⊥
