-- What is said of all runs, over the definitions alone.
use Rattle.std.specs.Prelude.{◌≡◌, ◌≢◌, ℕ, ◌<◌, List, [], ◌∷◌, ◌++◌, length, None}
use Rattle.njh_ebcdic.specs.Users.{User}
use Rattle.njh_table.specs.Entries.{CustomerEntry, route_of}
use Rattle.njh_table.specs.declared.Route.TheVariants.{Line}
use Rattle.njh_hub.specs.declared.event.Event.{Event}
use Rattle.njh_customer.specs.Customer.{line_at}
use Rattle.njh_customer.specs.Orders.{message_record, part_after_order}
use Rattle.njh_customer.specs.Runs.{alone_run, event_run}
use Rattle.njh_customer.specs.declared.given_order.GivenOrder.TheVariants.{Message}
use Rattle.njh_hub.specs.Outcome.{alone, entry_at, outcome_of}
use Rattle.njh_hub.specs.OwnEvents.{customer_of_event, events_of, first_events, own, sent_to}
use Rattle.njh_hub.specs.WholeHub.{Part, part, refusal_of, hub_event, hub_run}

-- Events lead customer c's part of a hub, and what is sent on its lines, as its own events lead that part alone.
pub record IsAlone (c : ℕ) (parts : List Part) (events : List Event) : Type 0 where
  pub after : part c (hub_run parts events).parts ≡ (alone_run (part c parts) (events_of c events)).after
  pub sent : sent_to c (hub_run parts events).sent ≡ (alone_run (part c parts) (events_of c events)).sent

abbrev pub EachIsAlone : Type 0
EachIsAlone = (c : ℕ) (parts : List Part) (events : List Event) → c < length parts → IsAlone c parts events

-- A customer of one hub and a customer of another are sent the same, and stand alike in the end.
pub record IsLike (c d : ℕ) (parts others : List Part) (events more : List Event) : Type 0 where
  pub after : part c (hub_run parts events).parts ≡ part d (hub_run others more).parts
  pub sent : sent_to c (hub_run parts events).sent ≡ sent_to d (hub_run others more).sent

-- Two hubs with customers that stand alike, two lists of events with the same events of these: it doesn't matter which
-- other customers there are, what they hold, or which events of theirs come between.
abbrev pub TwoListsAreLike : Type 0
TwoListsAreLike =
    (c d : ℕ) (parts others : List Part) (events more : List Event) →
    c < length parts → d < length others → part c parts ≡ part d others → events_of c events ≡ events_of d more →
    IsLike c d parts others events more

-- The headline: two hubs that were just opened, of tables that agree on a customer, and two lists of events with the
-- same events of it. The frames on its lines and its files are the same on both, and are those of the customer alone on
-- a hub of its own.
abbrev pub CustomersNeverMeet : Type 0
CustomersNeverMeet =
    (c d : ℕ) (entries others : List CustomerEntry) (events more : List Event) →
    c < length entries → d < length others → entry_at c entries ≡ entry_at d others
    → events_of c events ≡ events_of d more →
    (outcome_of c entries events ≡ outcome_of d others more)
    × (outcome_of c entries events ≡ alone (entry_at c entries) (events_of c events))

-- ---- one step

-- A step on another customer's line, and new routes and orders of another customer, leave a customer's part as it is.
abbrev pub OthersStay : Type 0
OthersStay = (c : ℕ) (parts : List Part) (event : Event) → c ≢ customer_of_event event
    → part c (hub_event parts event).parts ≡ part c parts

-- A step on a customer's own line, new routes of its own and an order of its own do what they do on a hub of its own,
-- whatever the others hold.
abbrev pub OwnStepIsOwn : Type 0
OwnStepIsOwn =
    (parts : List Part) (event : Event) → customer_of_event event < length parts →
    part (customer_of_event event) (hub_event parts event).parts
    ≡ (event_run (part (customer_of_event event) parts) (own event)).after

-- a list begins another
abbrev pub Begins : {X : Type 0} → List X → List X → Type 0
Begins {X} front whole = (more : List X) × (front ++ more ≡ whole)

-- The frames of what happened up to a stop come first of those of all events.
abbrev pub SentInOrder : Type 0
SentInOrder =
    (parts : List Part) (events : List Event) (whole bytes : ℕ) →
    Begins (hub_run parts (first_events events whole bytes)).sent (hub_run parts events).sent

-- the messages that wait on a line of a customer
abbrev pub waiting_on : ℕ → Part → List (List ℕ)
waiting_on l p = (line_at l p.customer.lines).state.messages

-- A message that isn't refused waits behind the others on the line that its node goes by.
abbrev pub TakenMessagesWait : Type 0
TakenMessagesWait =
    (p : Part) (whom : User) (text : List ℕ) (l : ℕ) → refusal_of (Message whom text) p ≡ None
    → route_of p.customer.entry whom.node ≡ Line l → l < length p.customer.lines
    → waiting_on l (part_after_order (Message whom text) p)
    ≡ waiting_on l p ++ message_record p.customer.entry whom text ∷ []
