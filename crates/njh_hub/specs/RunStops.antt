-- How far a run came, and why it stopped.
use Rattle.std.specs.Prelude.{◌≡◌, ℕ, ◌+◌, ◌<◌, ◌≤◌, ◌⊎◌}
use Rattle.std.specs.Prelude.{List, [], ◌∷◌, ◌++◌, length, Result, Ok, Err, OnOk, IfErr}
use Rattle.std.specs.Prelude.{Vec, vec_capacity, ⊤, IsSome, IsSomeAnd}
use Rattle.njh_bisync.specs.Limits.{longest_frame}
use Rattle.njh_table.specs.declared.LineId.{LineId}
use Rattle.njh_table.specs.NewRoutes.{new_routes_of, routes_checked}
use Rattle.njh_hub.specs.declared.event.Event.{Event}
use Rattle.njh_hub.specs.declared.fault.HubFault.{HubFault}
use Rattle.njh_hub.specs.declared.fault.HubFault.TheVariants.{UnknownLine, UnknownCustomer, Memory, BadRoutes, NoRoute}
use Rattle.njh_hub.specs.declared.fault.HubFault.TheVariants.{QueueFull}
use Rattle.njh_hub.specs.declared.fault.Cause.{Cause}
use Rattle.njh_hub.specs.declared.fault.Cause.TheVariants.{Hub, Sink}
use Rattle.njh_hub.specs.declared.fault.RunFault.{RunFault}
use Rattle.njh_hub.specs.OwnEvents.{line_of_event, routes_of, order_of, given_to, first_events, bytes_in_event}
use Rattle.njh_hub.specs.Sent.{IsCounted, SinkSays}
use Rattle.njh_hub.specs.Cuts.{SendsAt}
use Rattle.njh_hub.specs.WholeHub.{Part, part, HasLine, IsNamed, IsTaken, IsTurnedAway, SameLines, hub_run}

-- the events that happened: all, or up to where the run stopped
abbrev pub done : {A : Type 0} → List Event → Result A RunFault → List Event
done events (Ok x) = events
done events (Err fault) = first_events events fault.events fault.bytes

-- Why the hub refuses an event: it has no such line; it has no such customer; that customer can't have the routes; its
-- order has no way, or no room, by what its customer is then; or there was no memory for an event that names what is
-- there.
abbrev pub IsRefused : List Part → Event → HubFault → Type 0
IsRefused parts event UnknownLine = IsSomeAnd (line_of_event event) (λ line. HasLine parts line → ⊥)
IsRefused parts event UnknownCustomer = IsSomeAnd (given_to event) (λ c. c < length parts → ⊥)
IsRefused parts event (BadRoutes cause) = IsSomeAnd (routes_of event) (λ given. (given.0 < length parts) ×
    (routes_checked (part given.0 parts).customer.entry (new_routes_of given.0 given.1) ≡ Err cause))
IsRefused parts event NoRoute = IsSomeAnd (order_of event) (λ given. given.0 < length parts)
IsRefused parts event QueueFull = IsSomeAnd (order_of event) (λ given. given.0 < length parts)
IsRefused parts event Memory = IsNamed parts event

-- where the hub is the cause, and not the sink, this is so of its refusal
abbrev pub IfHub : Cause → (HubFault → Type 0) → Type 0
IfHub (Hub why) P = P why
IfHub Sink P = ⊤

-- an event that gives a customer routes
abbrev pub IsRoutes : Event → Type 0
IsRoutes event = IsSome (routes_of event)

-- an event that gives a customer routes or an order, and comes on no line
abbrev pub IsGiven : Event → Type 0
IsGiven event = IsSome (given_to event)

-- An order that was done wasn't refused by what its customer was; one that the hub refused was refused so.
abbrev pub TellsOrder : {A : Type 0} → List Part → Event → Result A RunFault → Type 0
TellsOrder parts event (Ok x) = IsTaken parts event
TellsOrder parts event (Err fault) = IfHub fault.cause (IsTurnedAway parts event)

-- A sink took all of these frames but the last, and refused that one.
pub record RefusedLast {S : Type 0} (took : S → S → List (LineId × List ℕ) → Type 0)
    (refused : S → S → LineId × List ℕ → Type 0)
    (before after : S) (sent : List (LineId × List ℕ)) : Type 0 where
  pub front : List (LineId × List ℕ)
  pub last : LineId × List ℕ
  pub between : S
  pub are : sent ≡ front ++ last ∷ []
  pub took_front : took before between front
  pub refused_last : refused between after last

-- What a sink took where a run was stopped: the frames that were sent, or all but the last, which it then refused.
abbrev pub HandedUntil : {S : Type 0} → (S → S → List (LineId × List ℕ) → Type 0) → (S → S → LineId × List ℕ → Type 0)
    → Cause → S →
    S → List (LineId × List ℕ) → Type 0
HandedUntil took refused (Hub fault) before after sent = took before after sent
HandedUntil took refused Sink before after sent = RefusedLast took refused before after sent

-- What it took in a run.
abbrev pub Handed : {S A : Type 0} → (S → S → List (LineId × List ℕ) → Type 0) → (S → S → LineId × List ℕ → Type 0) →
    Result A RunFault → S → S → List (LineId × List ℕ) → Type 0
Handed took refused (Ok x) before after sent = took before after sent
Handed took refused (Err fault) before after sent = HandedUntil took refused fault.cause before after sent

-- A stop within one event: before it or after so many of its bytes, and not all; or right after it.
abbrev pub IsWithinOne : Event → RunFault → Type 0
IsWithinOne event fault = (0 < fault.bytes → (fault.events ≡ 0) × (fault.bytes < bytes_in_event event)) ×
    ((fault.events ≡ 0) ⊎ ((fault.events ≡ 1) × (fault.bytes ≡ 0)))

-- A stop when so many events were whole and so many bytes of the next one were used: right behind that one where these
-- were all its bytes.
abbrev pub StopsAt : ℕ → ℕ → Event → RunFault → Type 0
StopsAt whole used event fault =
    ((used < bytes_in_event event) × (fault.events ≡ whole) × (fault.bytes ≡ used))
    ⊎ ((used ≡ bytes_in_event event) × (fault.events ≡ whole + 1) × (fault.bytes ≡ 0))

-- A stop right behind the byte of an event that sent a frame, or behind a signal that sent one. So many events were
-- whole before it.
pub record IsBehindFrame (parts : List Part) (whole : ℕ) (event : Event) (fault : RunFault) : Type 0 where
  pub used : ℕ
  pub sends : SendsAt parts event used
  pub stops : StopsAt whole used event fault

-- A moment of a run: the customers' parts, what the next frame is put in, and the sink.
pub record RunMoment (S Z : Type 0) : Type 0 where
  pub parts : List Part
  pub out : Vec ℕ Z
  pub sink : S

abbrev pub moment : {S Z : Type 0} → List Part → Vec ℕ Z → S → RunMoment S Z
moment parts out sink = record { parts = parts; out = out; sink = sink }

-- One event of a run, and the moments before it and after it. A fault speaks of it as of the only one.
pub record IsEventRun {S A Z : Type 0} (says : SinkSays S) (before : RunMoment S Z) (event : Event)
    (result : Result A RunFault) (after : RunMoment S Z) : Type 0 where
  pub leads : after.parts ≡ (hub_run before.parts (done (event ∷ []) result)).parts
  pub handed : Handed says.took says.refused result before.sink after.sink
      (hub_run before.parts (done (event ∷ []) result)).sent
  pub known : OnOk result (IsNamed before.parts event)
  pub lines : SameLines before.parts after.parts
  pub room : OnOk result (IsSome (line_of_event event) ⊎ (longest_frame ≤ vec_capacity before.out)
      → longest_frame ≤ vec_capacity after.out)
  pub one : IfErr result (IsWithinOne event)
  pub behind : IfErr result (λ fault. fault.events ≡ 1 → IsNamed before.parts event)
  pub causes : IfErr result (λ fault. IfHub fault.cause
      (λ why. (fault.events ≡ 0) × IsRefused before.parts event why))
  pub memory : IfErr result (λ fault. fault.cause ≡ Hub Memory → (fault.events ≡ 0) × (fault.bytes ≡ 0) ×
      (IsRoutes event ⊎ (vec_capacity before.out < longest_frame)))
  pub begun : IfErr result (λ fault. IfHub fault.cause (λ why. fault.bytes ≡ 0))
  pub behind_frame : IfErr result (λ fault. fault.cause ≡ Sink → IsBehindFrame before.parts 0 event fault)
  pub counts : says.count before.sink ≤ says.count after.sink
  pub counted : IfErr result (λ fault. fault.cause ≡ Sink
      → IsCounted (says.count before.sink) (says.count after.sink))
