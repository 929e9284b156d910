-- The orders that were taken: the last 64 with what came of them, the one that waits to be given to the hub, and the
-- one that was given in this round and whose outcome isn't known yet.
use Rattle.std.specs.Prelude.{◌≡◌, ⊤, ℕ, ◌+◌, Bool, true, false, List, [], ◌∷◌, ◌++◌, cond, min, Option, Some, None}
use Rattle.std.specs.Prelude.{Result, Ok, Err}
use Rattle.circular_buffer.specs.Buffer.{keep_last}
use Rattle.njh_customer.specs.declared.given_order.GivenOrder.{GivenOrder}
use Rattle.njh_customer.specs.declared.given_order.GivenOrder.TheVariants as given
use Rattle.njh_hub.specs.declared.fault.HubFault.{HubFault}
use Rattle.njh_hub.specs.declared.fault.HubFault.TheVariants as fault
use Rattle.njh_turns.specs.declared.attendant.NewOrder.{NewOrder}
use Rattle.njh_request.specs.declared.order.Order.{Order}
use Rattle.njh_request.specs.declared.order.Order.TheVariants as order
use Rattle.njh_answer.specs.Tickets.{is_late}
use Rattle.njh_answer.specs.declared.orders.OrderRecord.{OrderRecord}
use Rattle.njh_answer.specs.declared.orders.Outcome.{Outcome}
use Rattle.njh_answer.specs.declared.orders.Outcome.TheVariants.{Done, NotKept, NoWay, QueueFull, TooLate, GiverGone}
use Rattle.njh_answer.specs.declared.ticket.Ticket.{Ticket}
use Rattle.njh_answer.specs.declared.work.Work.{Work}
use Rattle.njh_answer.specs.declared.work.Work.TheVariants as work
use Rattle.njh_console.specs.declared.act.Act.{Act}
use Rattle.njh_console.specs.declared.order_book.WaitingOrder.{WaitingOrder}

pub record TakenOrders : Type 0 where
  pub records : List OrderRecord
  -- the number of the next one
  pub next : ℕ
  pub waiting : Option WaitingOrder
  pub given : Option Ticket

abbrev pub no_orders : TakenOrders
no_orders = record { records = []; next = 1; waiting = None; given = None }

-- none waits, and none was given whose outcome isn't known
pub record NoneIsOpen (o : TakenOrders) : Type 0 where
  pub none_waits : o.waiting ≡ None
  pub none_given : o.given ≡ None

-- ---- an order is taken

-- what the hub is given for an order is what was ordered
abbrev pub IsGivenFor : Order → ℕ → GivenOrder → Type 0
IsGivenFor (order.Command c owner text) d (given.Command user words) = (c ≡ d) × (text ≡ words)
IsGivenFor (order.Message c whom text) d (given.Message user words) = (c ≡ d) × (whom ≡ user) × (text ≡ words)
IsGivenFor what d other = ⊥

-- what is done for an order is what was ordered
abbrev pub IsWorkFor : Order → Work → Type 0
IsWorkFor what (work.Customer c given) = IsGivenFor what c given
IsWorkFor (order.Line id wish) (work.Line line other) = (id ≡ line) × (wish ≡ other)
IsWorkFor (order.Stop moment) (work.Stop other) = moment ≡ other
IsWorkFor order.Reload work.Tables = ⊤
IsWorkFor (order.Diff path) work.Tables = ⊤
IsWorkFor what other = ⊥

-- it waits if it is for the hub; the service's own is done at once
abbrev pub waiting_for : Ticket → Work → Option WaitingOrder → Option WaitingOrder
waiting_for ticket (work.Customer c given) before =
    Some (record { ticket = ticket; order = record { customer = c; order = given } })
waiting_for ticket (work.Line id wish) before = before
waiting_for ticket (work.Stop moment) before = before
waiting_for ticket work.Tables before = before

-- an order is taken, under the next number
abbrev pub with_order : Ticket → Work → TakenOrders → TakenOrders
with_order ticket what o = record o {
  next = min (o.next + 1) 18446744073709551615;
  waiting = waiting_for ticket what o.waiting;
}

-- ---- what came of it

-- that this came of an order is remembered; the last 64 are
abbrev pub with_outcome : Ticket → Outcome → TakenOrders → TakenOrders
with_outcome ticket outcome o =
    record o { records = keep_last 64 (o.records ++ record { ticket = ticket; outcome = outcome } ∷ []) }

abbrev pub given_up_if : Option WaitingOrder → TakenOrders → TakenOrders
given_up_if None o = o
given_up_if (Some w) o = with_outcome w.ticket GiverGone (record o { waiting = None })

-- who gave what waits has gone: it isn't carried out
abbrev pub given_up : TakenOrders → TakenOrders
given_up o = given_up_if o.waiting o

-- ---- the hub is given it

-- the order that waits, if it isn't too late
abbrev pub due_if : ℕ → Option WaitingOrder → Option NewOrder
due_if now None = None
due_if now (Some w) = cond (is_late now w.ticket.terms) None (Some w.order)

abbrev pub order_due : ℕ → TakenOrders → Option NewOrder
order_due now o = due_if now o.waiting

abbrev pub given_if : ℕ → Option WaitingOrder → TakenOrders → TakenOrders
given_if now None o = record o { given = None }
given_if now (Some w) o =
    cond (is_late now w.ticket.terms) (with_outcome w.ticket TooLate (record o { waiting = None; given = None }))
    (record o { waiting = None; given = Some w.ticket })

-- it is given, once; or it is too late, and it isn't
abbrev pub with_order_given : ℕ → TakenOrders → TakenOrders
with_order_given now o = given_if now o.waiting o

-- what comes of an order that the hub refused by this fault
abbrev pub refused_as : HubFault → Outcome
refused_as fault.QueueFull = QueueFull
refused_as other = NoWay

-- What comes of an order that the hub answered so, with these replies: they are kept, or there was no memory for them.
abbrev pub IsOutcomeOf : {A : Type 0} → Result A HubFault → List (List ℕ) → Outcome → Type 0
IsOutcomeOf (Ok x) replies (Done texts) = texts.items ≡ replies
IsOutcomeOf (Ok x) replies NotKept = ⊤
IsOutcomeOf (Ok x) replies outcome = ⊥
IsOutcomeOf (Err e) replies outcome = outcome ≡ refused_as e

abbrev pub IsDoneIf : {A : Type 0} → Option Ticket → Result A HubFault → List (List ℕ) → TakenOrders → TakenOrders
    → Type 0
IsDoneIf None answer replies before after = after ≡ before
IsDoneIf (Some ticket) answer replies before after =
    (outcome : Outcome) × IsOutcomeOf answer replies outcome
    × (after ≡ with_outcome ticket outcome (record before { given = None }))

-- The hub answered the order that was given, if one was.
abbrev pub IsOrderDone : {A : Type 0} → Result A HubFault → List (List ℕ) → TakenOrders → TakenOrders → Type 0
IsOrderDone answer replies before after = IsDoneIf before.given answer replies before after

-- ---- the service does it

-- what the service is to do itself, if who ordered it hasn't gone and it isn't too late
abbrev pub act_done : Bool → Bool → Act → Option Act
act_done true late what = None
act_done false true what = None
act_done false false what = Some what

-- and what comes of it: it has no replies
abbrev pub IsActOutcome : Bool → Bool → Outcome → Type 0
IsActOutcome true late GiverGone = ⊤
IsActOutcome false true TooLate = ⊤
IsActOutcome false false (Done texts) = texts.items ≡ []
IsActOutcome gone late outcome = ⊥

-- that is remembered
abbrev pub IsActed : Bool → Bool → Ticket → TakenOrders → TakenOrders → Type 0
IsActed gone late ticket before after =
    (outcome : Outcome) × IsActOutcome gone late outcome × (after ≡ with_outcome ticket outcome before)

-- ---- the service reads tables for it

-- why none are read, if who ordered it has gone, or it is too late
abbrev pub lapsed : Bool → Bool → Option Outcome
lapsed true late = Some GiverGone
lapsed false true = Some TooLate
lapsed false false = None
