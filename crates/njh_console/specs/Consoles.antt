-- The console: its visitors and its orders, and what a round makes of them.
use Rattle.std.specs.Prelude.{◌≡◌, ◌⊎◌, ℕ, List, ◌∷◌, cond}
use Rattle.http_server.specs.Exchange.{Call}
use Rattle.njh_answer.specs.Tickets.{is_late}
use Rattle.njh_answer.specs.declared.answering.Deed.{Deed}
use Rattle.njh_answer.specs.declared.answering.Deed.TheVariants.{Nothing}
use Rattle.njh_answer.specs.declared.ticket.Ticket.{Ticket}
use Rattle.njh_console.specs.Acts.{asked_of, orders_after}
use Rattle.njh_console.specs.Orders.{TakenOrders, given_up, IsActed}
use Rattle.njh_console.specs.Rounds.{AreAnswered}
use Rattle.njh_console.specs.Scenes.{Scene}
use Rattle.njh_console.specs.Seats.{is_last_gone, ArePassed, AreSentTo, IsTurn, Seat}
use Rattle.njh_console.specs.declared.act.Asked.{Asked}

-- The visitors, the first of whom is looked at next, and the orders.
pub record ConsoleState (V : Type 0) : Type 0 where
  pub seats : List (Seat V)
  pub orders : TakenOrders

-- Each was written to once. If the one who was answered in this round, who stands last, has gone, what he ordered of
-- the hub isn't carried out.
pub record AreHeard {V : Type 0} (before after : ConsoleState V) : Type 0 where
  pub seats : AreSentTo before.seats after.seats
  pub orders : after.orders ≡ cond (is_last_gone after.seats) (given_up before.orders) before.orders

-- What was ordered of the service itself is to be done in this second, and is remembered as done; or it isn't.
pub record IsActDone {V : Type 0} (now : ℕ) (ticket : Ticket) (before after : ConsoleState V) : Type 0 where
  pub seats : after.seats ≡ before.seats
  pub orders : IsActed (is_last_gone before.seats) (is_late now ticket.terms) ticket before.orders after.orders

-- The first visitor whose request could be answered was, by what is at this moment, and this was ordered by it. He
-- comes last then. Where nobody was answered, nothing was ordered, and whoever asked is held up.
abbrev pub AreServed : {V : Type 0} → Scene → ℕ → TakenOrders → List (Seat V) → List (Seat V) → Deed → Type 0
AreServed scene now orders before after what =
    (ArePassed before after × (what ≡ Nothing))
    ⊎ ((call : Call) × (others : List Call) × IsTurn now before after (call ∷ others)
    × AreAnswered scene orders (call ∷ others) what)

-- One visitor was answered, if anybody could be, and what it ordered is taken, or is left to the service.
pub record IsRoundServed {V : Type 0} (scene : Scene) (now : ℕ) (before after : ConsoleState V) (asked : Asked)
    : Type 0 where
  pub what : Deed
  pub seats : AreServed scene now before.orders before.seats after.seats what
  pub orders : after.orders ≡ orders_after what before.orders
  pub asked_is : asked ≡ asked_of what
