-- What is kept of the whole files of a hub's customers, and what a crash may leave of it.
use Rattle.std.specs.Prelude.{◌≡◌, ◌⊎◌, ℕ, ◌<◌, ◌≤◌, Bool, true, false, List, [], length, map, slice_index_or}
use Rattle.std.specs.Prelude.{slice_set, Result, OnOk, OnErr}
use Rattle.njh_table.specs.Entries.{RouteEntry}
use Rattle.njh_customer.specs.NewRoutes.{part_after_routes}
use Rattle.njh_customer.specs.Orders.{part_after_order}
use Rattle.njh_customer.specs.Part.{part_after_bytes, part_after_signal}
use Rattle.njh_customer.specs.declared.given_order.GivenOrder.{GivenOrder}
use Rattle.njh_customer.specs.declared.signal.Signal.{Signal}
pub use Rattle.njh_spool.specs.Restoring.{KeptFile}
use Rattle.njh_spool.specs.Restoring.{kept}
use Rattle.njh_spool.specs.CustomerSpool.{WholeFile}
use Rattle.njh_spool.specs.declared.State.{State}
use Rattle.njh_spool.specs.declared.State.TheVariants.{Ready, Held, Refused, Sending}
use Rattle.njh_customer.specs.Runs.{alone_run}
use Rattle.njh_hub.specs.declared.event.Event.{Event}
use Rattle.njh_hub.specs.OwnEvents.{events_of, sent_to}
use Rattle.njh_hub.specs.Sent.{IsCounted}
use Rattle.njh_hub.specs.WholeHub.{Part, part, hub_run}

-- ---- what is kept

abbrev pub is_held : State → Bool
is_held Ready = false
is_held Held = true
is_held Refused = false
is_held Sending = false

-- of a whole file
abbrev pub kept_file : WholeFile → KeptFile
kept_file f = kept f.kind (is_held f.state) f.records

-- of a customer: its whole files, in their order of arrival
abbrev pub kept_files : Part → List KeptFile
kept_files p = map kept_file p.customer.spool.whole

-- of all customers, each at its number
abbrev pub kept_of : List Part → List (List KeptFile)
kept_of parts = map kept_files parts

-- customer c's, of what was left of all
abbrev pub left_of : ℕ → List (List KeptFile) → List KeptFile
left_of c left = slice_index_or left c []

-- ---- one step

-- A step of a customer, new routes of it or an order for it lead its part there.
pub data IsLed (p after : Part) : Type 0 where
  by_bytes : (l : ℕ) (piece : List ℕ) → l < length p.rests → after ≡ (part_after_bytes p l piece).after → IsLed p after
  by_signal : (l : ℕ) (signal : Signal) → after ≡ (part_after_signal p l signal).after → IsLed p after
  by_routes : (routes : List RouteEntry) → after ≡ part_after_routes routes p → IsLed p after
  by_order : (order : GivenOrder) → after ≡ part_after_order order p → IsLed p after

-- One of customer c leads the hub there.
abbrev pub LeadsHub : ℕ → (before now : List Part) → Type 0
LeadsHub c before now = (after : Part) × IsLed (part c before) after × (now ≡ slice_set before c after)

-- ---- what a crash may leave

-- What a type of keepers says of them. What a crash at this moment may leave: of each customer, by its number, what is
-- kept of its whole files, in their order of arrival. That a keeper has taken in all that a hub whose customers have
-- these parts has of files. And how often it failed.
pub record KeeperSays (K : Type 0) : Type 1 where
  pub may_leave : K → List (List KeptFile) → Type 0
  pub knows : K → List Part → Type 0
  pub count : K → ℕ

-- What may be left is what a hub of these parts has, and nothing else.
abbrev pub LeavesOnly : (List (List KeptFile) → Type 0) → List Part → Type 0
LeavesOnly may_leave parts = (left : List (List KeptFile)) → may_leave left → left ≡ kept_of parts

-- It is what the hub had before, or what it has behind.
abbrev pub LeavesEither : (List (List KeptFile) → Type 0) → (before behind : List Part) → Type 0
LeavesEither may_leave before behind =
    (left : List (List KeptFile)) → may_leave left → (left ≡ kept_of before) ⊎ (left ≡ kept_of behind)

-- What a crash may leave of a keeper is nothing that it might not have left before.
abbrev pub LeavesNoMore : {K : Type 0} → KeeperSays K → K → K → Type 0
LeavesNoMore says keeper new_keeper =
    (left : List (List KeptFile)) → says.may_leave new_keeper left → says.may_leave keeper left

-- The keeper knows what the hub has, and a crash leaves that.
pub record IsSettled {K : Type 0} (says : KeeperSays K) (keeper : K) (parts : List Part) : Type 0 where
  pub known : says.knows keeper parts
  pub leaves : LeavesOnly (says.may_leave keeper) parts

-- ---- what calls leave of a keeper

-- In turns: where all went well, it knows what the hub has now, and has counted no fault; where a fault is told, it has
-- counted one. Nothing of it is kept yet.
pub record Follows {K A E : Type 0} (says : KeeperSays K) (keeper : K) (result : Result A E) (parts : List Part)
    (new_keeper : K) : Type 0 where
  pub known : OnOk result (says.knows new_keeper parts)
  pub leaves : LeavesNoMore says keeper new_keeper
  pub faultless : OnOk result (says.count new_keeper ≡ says.count keeper)
  pub counts : says.count keeper ≤ says.count new_keeper
  pub counted : OnErr result (IsCounted (says.count keeper) (says.count new_keeper))

-- Behind rounds: where all went well, what the hub has now is kept, and it has counted no fault; where a fault is told,
-- it has counted one.
pub record Keeps {K A E : Type 0} (says : KeeperSays K) (keeper : K) (result : Result A E) (parts : List Part)
    (new_keeper : K) : Type 0 where
  pub settled : OnOk result (IsSettled says new_keeper parts)
  pub faultless : OnOk result (says.count new_keeper ≡ says.count keeper)
  pub counts : says.count keeper ≤ says.count new_keeper
  pub counted : OnErr result (IsCounted (says.count keeper) (says.count new_keeper))

-- ---- a law

-- Whatever events a hub is told, and whosever they are: what is to be kept of customer c, and the frames on its lines,
-- are those of the customer alone over its own events.
abbrev pub KeptIsOwn : Type 0
KeptIsOwn =
    (c : ℕ) (parts : List Part) (events : List Event) → c < length parts →
    let alone = alone_run (part c parts) (events_of c events) in
    (left_of c (kept_of (hub_run parts events).parts) ≡ kept_files alone.after)
    × (sent_to c (hub_run parts events).sent ≡ alone.sent)
