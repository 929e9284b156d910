-- What the events of a run name, and why one of them is refused.
use Rattle.std.proofs.Common.{◌≡◌, ℕ, ◌+◌, ◌<◌, List, [], ◌∷◌, ◌++◌, length, take, set, get_or, Option, None, Some}
use Rattle.std.proofs.Common.{refl, ap, sym, subst, ◌∙◌, ⊎_elim, arith, inl, inr, ◌⊎◌}
use Rattle.std.proofs.lemmas.List.{length-set, take_more}
use Rattle.std.proofs.lemmas.Option.{slice_get-get_or}
use Rattle.std.proofs.lemmas.List.Elements.{All-push, All-same}
use Rattle.std.specs.Prelude.{All, IsSome, IsSomeAnd, slice_get}
use Rattle.njh_table.specs.NewRoutes.{NewRoute, new_routes_of, routes_checked}
use Rattle.njh_hub.specs.declared.event.Event.{Event}
use Rattle.njh_hub.specs.declared.event.Event.TheVariants.{Bytes, Tick, Garbled, Lost, Routes, Order}
use Rattle.njh_customer.specs.Runs.{OwnEvent, alone_run, event_run}
use Rattle.njh_customer.proofs.EventMoves.{events_keep_faults}
use Rattle.njh_hub.specs.OwnEvents.{customer_of_event, line_of_event, routes_of, order_of, given_to, own, events_of}
use Rattle.njh_hub.specs.declared.fault.Cause.{Cause}
use Rattle.njh_hub.specs.declared.fault.Cause.TheVariants.{Hub, Sink}
use Rattle.njh_hub.specs.declared.fault.HubFault.{HubFault}
use Rattle.njh_hub.specs.declared.fault.HubFault.TheVariants.{UnknownLine, UnknownCustomer, Memory, BadRoutes, NoRoute}
use Rattle.njh_hub.specs.declared.fault.HubFault.TheVariants.{QueueFull}
use Rattle.njh_hub.specs.RunStops.{IfHub, IsGiven, IsRefused}
use Rattle.njh_hub.specs.WholeHub.{Part, part, AreTaken, IsNamed, IsTaken, IsTurnedAway, SameLines}
use Rattle.njh_hub.specs.WholeHub.{hub_event, hub_run}
use Rattle.njh_hub.proofs.RunLaws.{each_is_alone}

-- a hub keeps its customers over a run
pub hub_run-length : (parts : List Part) (events : List Event) → length (hub_run parts events).parts ≡ length parts
hub_run-length parts [] = refl
hub_run-length parts (event ∷ events) =
    let c = customer_of_event event in
    let after = (event_run (part c parts) (own event)).after in
    hub_run-length (set parts c after) events ∙ length-set parts c after

alone_run-checked : (p : Part) (events : List OwnEvent) (routes : List NewRoute) →
    routes_checked (alone_run p events).after.customer.entry routes ≡ routes_checked p.customer.entry routes
alone_run-checked p [] routes = refl
alone_run-checked p (event ∷ events) routes = alone_run-checked (event_run p event).after events routes
    ∙ events_keep_faults p event routes

-- A hub that some events led on has the same lines and customers, and refuses the same routes.
pub record LedOn (start now : List Part) : Type 0 where
  pub many : length now ≡ length start
  pub lines : SameLines start now
  pub checked : (c : ℕ) → c < length start → (routes : List NewRoute)
      → routes_checked (part c now).customer.entry routes ≡ routes_checked (part c start).customer.entry routes

pub led_on : (start now : List Part) (events : List Event) → now ≡ (hub_run start events).parts
    → SameLines start now
    → LedOn start now
led_on start now events leads same = record {
  many = ap (λ (ps : List Part). length ps) leads ∙ hub_run-length start events;
  lines = same;
  checked = λ c there routes. ap (λ (ps : List Part). routes_checked (part c ps).customer.entry routes) leads
      ∙ ap (λ (p : Part). routes_checked p.customer.entry routes) (each_is_alone c start events there).after
      ∙ alone_run-checked (part c start) (events_of c events) routes;
}

-- so it names what it named before, and refuses what it refused
pub named-before : (start now : List Part) → LedOn start now → (event : Event) → IsNamed now event → IsNamed start event
named-before start now on (Bytes id piece) known = omega (arith, known, on.lines id.customer)
named-before start now on (Tick id) known = omega (arith, known, on.lines id.customer)
named-before start now on (Garbled id) known = omega (arith, known, on.lines id.customer)
named-before start now on (Lost id) known = omega (arith, known, on.lines id.customer)
named-before start now on (Routes c routes) known =
    let there : c < length start = omega (arith, known.0, on.many)
    in (there, sym (on.checked c there (new_routes_of c routes)) ∙ known.1)
named-before start now on (Order c order) known = omega (arith, known, on.many)

IsSomeAnd-weaker : {X : Type 0} (P Q : X → Type 0) → ((x : X) → P x → Q x) → (o : Option X) → IsSomeAnd o P
    → IsSomeAnd o Q
IsSomeAnd-weaker P Q weaker None is = is
IsSomeAnd-weaker P Q weaker (Some x) is = weaker x is

pub refused-before : (start now : List Part) → LedOn start now → (event : Event) (why : HubFault)
    → IsRefused now event why →
    IsRefused start event why
refused-before start now on event UnknownLine refused = IsSomeAnd-weaker _ _
    (λ line nowhere known. nowhere (omega (arith, known, on.lines line.customer))) (line_of_event event) refused
refused-before start now on event UnknownCustomer refused = IsSomeAnd-weaker _ _
    (λ c nowhere there. nowhere (omega (arith, there, on.many))) (given_to event) refused
refused-before start now on event (BadRoutes cause) refused = IsSomeAnd-weaker _ _
    (λ given bad. let there : given.0 < length start = omega (arith, bad.0, on.many) in
    (there, sym (on.checked given.0 there (new_routes_of given.0 given.1)) ∙ bad.1)) (routes_of event) refused
refused-before start now on event NoRoute refused = IsSomeAnd-weaker _ _
    (λ given there. omega (arith, there, on.many)) (order_of event) refused
refused-before start now on event QueueFull refused = IsSomeAnd-weaker _ _
    (λ given there. omega (arith, there, on.many)) (order_of event) refused
refused-before start now on event Memory refused = named-before start now on event refused

-- an event comes on a line, or gives routes or an order
pub either_event : (event : Event) → IsSome (line_of_event event) ⊎ IsGiven event
either_event (Bytes id piece) = inl refl
either_event (Tick id) = inl refl
either_event (Garbled id) = inl refl
either_event (Lost id) = inl refl
either_event (Routes c routes) = inr refl
either_event (Order c order) = inr refl

-- one order more that isn't refused
pub are_taken_more : (parts : List Part) (events : List Event) (event : Event) → AreTaken parts events
    → IsTaken (hub_run parts events).parts event → AreTaken parts (events ++ event ∷ [])
are_taken_more parts [] event are is = (is, tt)
are_taken_more parts (e ∷ es) event are is =
    (are.0, are_taken_more (hub_event parts e).parts es event are.1 is)

-- of one event more
pub All-more : (P : Event → Type 0) (events : List Event) (i : ℕ) (event : Event) → i < length events
    → event ≡ get_or events i event →
    All P (take i events) → P event → All P (take (i + 1) events)
All-more P events i event within found before here = All-same P _ _
    (take_more events i event within ∙ ap (λ (x : Event). take i events ++ x ∷ []) (sym found))
    (All-push P (take i events) event before here)

-- every event before a stop within the next one, or right after it, was named
pub behind-known : (start : List Part) (events : List Event) (i n bytes : ℕ) (event : Event) → i < length events → event
    ≡ get_or events i event →
    ((n ≡ 0) ⊎ ((n ≡ 1) × (bytes ≡ 0))) → (n ≡ 1 → IsNamed start event) →
    All (IsNamed start) (take i events) → All (IsNamed start) (take (i + n) events)
behind-known start events i n bytes event within found stop behind known =
    let P : ℕ → Type 0 = λ k. All (IsNamed start) (take k events) in
    ⊎_elim (λ (w : n ≡ 0). subst P (omega arith) known)
    (λ (w : (n ≡ 1) × (bytes ≡ 0)).
    let more : P (i + 1) = All-more (IsNamed start) events i event within found known (behind w.0) in
    subst P (omega (arith, w.0)) more)
    stop

-- the event at which a run stopped
pub found_at : (events : List Event) (i n : ℕ) (event : Event) → i < length events → event ≡ get_or events i event
    → n ≡ 0 →
    slice_get events (i + n) ≡ Some event
found_at events i n event within found here =
    let e : i + n ≡ i = omega arith in
    ap (slice_get events) e ∙ slice_get-get_or events i event within ∙ ap Some (sym found)

IfHub-weaker : (P Q : HubFault → Type 0) → ((why : HubFault) → P why → Q why) → (cause : Cause) → IfHub cause P
    → IfHub cause Q
IfHub-weaker P Q weaker (Hub why) is = weaker why is
IfHub-weaker P Q weaker Sink is = tt

-- it is refused, where the hub is the cause
pub refused_at : (start now : List Part) → LedOn start now → (events : List Event) (i n : ℕ) (event : Event)
    → i < length events →
    event ≡ get_or events i event → (cause : Cause) → IfHub cause (λ why. (n ≡ 0) × IsRefused now event why) →
    IfHub cause (λ why. IsSomeAnd (slice_get events (i + n)) (λ e. IsRefused start e why))
refused_at start now on events i n event within found cause stopped = IfHub-weaker _ _
    (λ why told. subst (λ (o : Option Event). IsSomeAnd o (λ e. IsRefused start e why))
    (sym (found_at events i n event within found told.0))
    (refused-before start now on event why told.1)) cause stopped

-- an order that is refused is so by what its customer is then
pub turned_away_at : (start now : List Part) (events : List Event) (i n : ℕ) (event : Event)
    → now ≡ (hub_run start (take i events)).parts → i < length events → event ≡ get_or events i event → (cause : Cause)
    → IfHub cause (λ why. (n ≡ 0) × IsRefused now event why) → IfHub cause (IsTurnedAway now event)
    → IfHub cause (λ why. IsSomeAnd (slice_get events (i + n))
    (λ e. IsTurnedAway (hub_run start (take (i + n) events)).parts e why))
turned_away_at start now events i n event led within found (Hub why) stopped away =
    let here : i ≡ i + n = omega (arith, stopped.0) in
    let Q : ℕ → Type 0 = λ k. IsTurnedAway (hub_run start (take k events)).parts event why in
    subst (λ (o : Option Event). IsSomeAnd o (λ e. IsTurnedAway (hub_run start (take (i + n) events)).parts e why))
    (sym (found_at events i n event within found stopped.0))
    (subst Q here (subst (λ (ps : List Part). IsTurnedAway ps event why) led away))
turned_away_at start now events i n event led within found Sink stopped away = tt
