-- What is ordered by an answer.
use Rattle.std.specs.Prelude.{⊤}
use Rattle.http.specs.StatusCode.{IsStatusCode}
use Rattle.njh_answer.specs.Answers.{Told}
use Rattle.njh_answer.specs.declared.answering.Deed.{Deed}
use Rattle.njh_answer.specs.declared.answering.Deed.TheVariants as deed
use Rattle.njh_answer.specs.declared.ticket.Ticket.{Ticket}
use Rattle.njh_answer.specs.declared.work.Work.{Work}
use Rattle.njh_answer.specs.declared.work.Work.TheVariants as work
use Rattle.njh_console.specs.Orders.{TakenOrders, with_order, IsWorkFor}
use Rattle.njh_console.specs.declared.act.Act.TheVariants as act
use Rattle.njh_console.specs.declared.act.Asked.{Asked}
use Rattle.njh_console.specs.declared.act.Asked.TheVariants.{Nothing, Refused, Given, Act, Tables}

-- what is done for an order is what was ordered
abbrev pub IsDeed : Deed → Type 0
IsDeed deed.Nothing = ⊤
IsDeed (deed.Refused why) = ⊤
IsDeed (deed.Order ticket work) = IsWorkFor ticket.order work

-- an answer is sent under a status of HTTP, and what it orders is what was asked
pub record IsSound (t : Told) : Type 0 where
  pub status_known : IsStatusCode t.status
  pub deed_known : IsDeed t.deed

-- an order is taken
abbrev pub orders_after : Deed → TakenOrders → TakenOrders
orders_after deed.Nothing o = o
orders_after (deed.Refused why) o = o
orders_after (deed.Order ticket work) o = with_order ticket work o

-- what is left to the service of an order: to tell of it, if it is the hub's to carry out, and else to do it
abbrev pub asked_for : Ticket → Work → Asked
asked_for ticket (work.Customer c given) = Given ticket.number ticket.terms
asked_for ticket (work.Line id wish) = Act ticket (act.Line id wish)
asked_for ticket (work.Stop moment) = Act ticket (act.Stop moment)
asked_for ticket work.Tables = Tables ticket

-- what is left to the service of a round: an order, or how a request was refused
abbrev pub asked_of : Deed → Asked
asked_of deed.Nothing = Nothing
asked_of (deed.Refused why) = Refused why
asked_of (deed.Order ticket what) = asked_for ticket what
