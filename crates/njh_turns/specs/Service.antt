-- A service: rounds of turns, and between them what customers are given: new routes, or an order.
use Rattle.std.specs.Prelude.{◌≡◌, ◌⊎◌, ℕ, ◌<◌, ◌≤◌, ◌==◌, cond, List, [], ◌∷◌, ◌++◌, length, Option, Some, None}
use Rattle.std.specs.Prelude.{⊤, Result, OnOk, OnErr, slice_index_or, All}
use Rattle.std.specs.List.{flat_map}
use Rattle.njh_table.specs.declared.LineId.{LineId}
use Rattle.njh_customer.specs.Orders.{replies_to}
use Rattle.njh_customer.specs.declared.given_order.GivenOrder.{GivenOrder}
use Rattle.njh_hub.specs.declared.event.Event.{Event}
use Rattle.njh_hub.specs.declared.event.Event.TheVariants.{Order, Routes}
use Rattle.njh_hub.specs.declared.fault.HubFault.{HubFault}
use Rattle.njh_hub.specs.OwnEvents.{customer_of_event, events_of}
use Rattle.njh_hub.specs.RunStops.{IsGiven}
use Rattle.njh_hub.specs.Steps.{IsOrdered}
use Rattle.njh_hub.specs.WholeHub.{Part, part, IsNamed, IsTaken, hub_run}
use Rattle.njh_turns.specs.declared.attendant.NewOrder.{NewOrder}
use Rattle.njh_turns.specs.declared.attendant.NewRoutes.{NewRoutes}
use Rattle.njh_turns.specs.Turns.{Turn, Placed, HubMoment, HadTurns, turn_at, quiets_after, round_events}
use Rattle.njh_turns.specs.WireLaws.{own_wires}
use Rattle.njh_turns.specs.Wires.{WireAct, WireSays}

-- ---- an attendant in a round

-- How far it came: it rests between rounds; it came before one; it was asked for new routes; then for an order. If it
-- brought any it waits to hear what came of it.
pub data Stage : Type 0 where
  Rests : Stage
  Begins : Stage
  AskedRoutes : (brought : Option Event) → Stage
  AskedOrder : (brought : Option Event) → Stage

-- what it brought and waits to hear of
abbrev pub brought_at : Stage → Option Event
brought_at Rests = None
brought_at Begins = None
brought_at (AskedRoutes brought) = brought
brought_at (AskedOrder brought) = brought

-- it was asked for all, and waits for nothing: the turns of the round may be taken
abbrev pub in_round : Stage
in_round = AskedOrder None

-- ---- what happens

-- What happens in a service: a round of turns, or something is given to a customer, new routes or an order.
pub data Happening : Type 0 where
  Round : (turns : List Turn) → Happening
  Given : (event : Event) → Happening

-- what the hub is told
abbrev pub happening_events : List LineId → List ℕ → Happening → List Event
happening_events lines quiets (Round turns) = round_events lines quiets turns
happening_events lines quiets (Given event) = event ∷ []

-- the quiets in a row on each wire; what is given leaves them as they are
abbrev pub happening_quiets : List ℕ → Happening → List ℕ
happening_quiets quiets (Round turns) = quiets_after quiets turns
happening_quiets quiets (Given event) = quiets

-- the turn of the i-th wire, in a round
abbrev pub happening_turns : List Part → List LineId → List ℕ → ℕ → Happening → List Placed
happening_turns parts lines quiets i (Round turns) = turn_at parts lines quiets i turns ∷ []
happening_turns parts lines quiets i (Given event) = []

abbrev pub happening_rounds : Happening → List (List Turn)
happening_rounds (Round turns) = turns ∷ []
happening_rounds (Given event) = []

-- An event of new routes or of an order, that can be given: the hub has the customer, which may have the routes, and
-- the order has a way and room.
pub record CanBeGiven (parts : List Part) (event : Event) : Type 0 where
  pub given : IsGiven event
  pub named : IsNamed parts event
  pub taken : IsTaken parts event

abbrev pub IsPossible : List Part → Happening → Type 0
IsPossible parts (Round turns) = ⊤
IsPossible parts (Given event) = CanBeGiven parts event

-- something is given only where somebody may bring it
abbrev pub IsBrought : Type 0 → Happening → Type 0
IsBrought steers (Round turns) = ⊤
IsBrought steers (Given event) = steers

-- ---- a story: what happens, one after the other

abbrev pub service_events : List LineId → List ℕ → List Happening → List Event
service_events lines quiets [] = []
service_events lines quiets (happening ∷ story) =
    happening_events lines quiets happening ++ service_events lines (happening_quiets quiets happening) story

-- the quiets in a row after it
abbrev pub service_quiets : List ℕ → List Happening → List ℕ
service_quiets quiets [] = quiets
service_quiets quiets (happening ∷ story) = service_quiets (happening_quiets quiets happening) story

abbrev pub service_rounds : List Happening → List (List Turn)
service_rounds story = flat_map happening_rounds story

-- the turns of the i-th wire
abbrev pub service_turns : List Part → List LineId → List ℕ → ℕ → List Happening → List Placed
service_turns parts lines quiets i [] = []
service_turns parts lines quiets i (happening ∷ story) = happening_turns parts lines quiets i happening
    ++ service_turns (hub_run parts (happening_events lines quiets happening)).parts lines
    (happening_quiets quiets happening) i story

-- all that is given in a story could be given when it was
abbrev pub ArePossible : List Part → List LineId → List ℕ → List Happening → Type 0
ArePossible parts lines quiets [] = ⊤
ArePossible parts lines quiets (happening ∷ story) = IsPossible parts happening
    × ArePossible (hub_run parts (happening_events lines quiets happening)).parts lines
    (happening_quiets quiets happening) story

-- A service of so many rounds, or of fewer where its attendant ended it: each wire had one turn in each, in their
-- order, and nothing else passed on it; the hub was told of these turns, of new routes and orders that it could give
-- and that the attendant may bring, and of nothing else.
pub record IsAttended {W : Type 0} (says : WireSays W) (steers ended : Type 0) (lines : List LineId) (turns : ℕ)
    (before after : HubMoment W) : Type 0 where
  pub story : List Happening
  pub many : (length (service_rounds story) ≡ turns) ⊎ (ended × (length (service_rounds story) < turns))
  pub each : All (λ round. length round ≡ length lines) (service_rounds story)
  pub possible : ArePossible before.parts lines before.quiets story
  pub brought : All (IsBrought steers) story
  pub hub : after.parts ≡ (hub_run before.parts (service_events lines before.quiets story)).parts
  pub calm : after.quiets ≡ service_quiets before.quiets story
  pub had : (i : ℕ) (d : W) → i < length lines →
      HadTurns says (service_turns before.parts lines before.quiets i story) (slice_index_or before.wires i d)
      (slice_index_or after.wires i d)

-- ---- between rounds

-- Nothing passed on any wire.
pub record AreStill {S : Type 0} (passed : S → S → List WireAct → Type 0) (count : S → ℕ)
    (wires new_wires : List S) : Type 0 where
  pub passed_none : (i : ℕ) (d : S) → i < length wires
      → passed (slice_index_or wires i d) (slice_index_or new_wires i d) []
  pub counts : (i : ℕ) (d : S) → i < length wires
      → count (slice_index_or wires i d) ≤ count (slice_index_or new_wires i d)

-- A customer was given this, if anything was.
abbrev pub WasGiven : List Part → Option Event → List Part → Type 0
WasGiven parts None new = new ≡ parts
WasGiven parts (Some event) new = CanBeGiven parts event × (new ≡ (hub_run parts (event ∷ [])).parts)

-- an order with its customer, as an attendant brings it
abbrev pub ordered : NewOrder → ℕ × GivenOrder
ordered new = (new.customer, new.order)

-- what an attendant brings, as the event that it is
abbrev pub routes_event : NewRoutes → Event
routes_event new = Routes new.customer new.routes

abbrev pub order_event : NewOrder → Event
order_event new = Order new.customer new.order

-- What came of new routes: the customer for whom they were brought was given just these, or they were refused and
-- nothing has changed.
pub record AreRoutesAnswered {A : Type 0} (parts : List Part) (brought : NewRoutes) (answer : Result A HubFault)
    (new : List Part) : Type 0 where
  pub given : OnOk answer (WasGiven parts (Some (routes_event brought)) new)
  pub refused : OnErr answer (new ≡ parts)

-- What came of an order, and what is said of it: the replies to it where it was done, none where it was refused.
pub record IsAnswered {A : Type 0} (parts : List Part) (given : ℕ × GivenOrder) (answer : Result A HubFault)
    (replies : List (List ℕ)) (new : List Part) : Type 0 where
  pub done : IsOrdered parts given.0 given.1 answer new
  pub replies_are : OnOk answer (replies ≡ replies_to given.1 (part given.0 parts).customer)
  pub no_replies : OnErr answer (replies ≡ [])

-- ---- a law

-- of a story, what is customer c's: the turns of its own wires, and its own new routes and orders
abbrev pub own_story : ℕ → List LineId → List Happening → List Happening
own_story c lines [] = []
own_story c lines (Round turns ∷ story) = Round (own_wires c lines turns) ∷ own_story c lines story
own_story c lines (Given event ∷ story) =
    cond (customer_of_event event == c) (Given event ∷ own_story c lines story) (own_story c lines story)

-- A customer's events are those of a service of as many rounds, of its own wires and with its own new routes and orders
-- alone.
abbrev pub OwnServiceDecides : Type 0
OwnServiceDecides =
    (c : ℕ) (lines : List LineId) (quiets : List ℕ) (story : List Happening) →
    events_of c (service_events lines quiets story)
    ≡ events_of c (service_events (own_wires c lines lines) (own_wires c lines quiets) (own_story c lines story))
