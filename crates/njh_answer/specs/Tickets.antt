-- An order as it is taken: under which number and on which terms, for whom, and what is done for it.
use Rattle.std.specs.Prelude.{ℕ, Bool, false, List, nat_lt, Option, Some, None, Result, Ok, Err}
use Rattle.njh_ebcdic.specs.Users.{User}
use Rattle.njh_table.specs.TableFile.{TableFile, customer_at}
use Rattle.njh_customer.specs.declared.given_order.GivenOrder.TheVariants as given
use Rattle.njh_hub.specs.WholeHub.{Part, part}
use Rattle.njh_request.specs.declared.order.Order.{Order}
use Rattle.njh_request.specs.declared.order.Order.TheVariants as order
use Rattle.njh_request.specs.declared.refusal.RequestRefusal.{RequestRefusal}
use Rattle.njh_request.specs.declared.terms.Terms.{Terms}
use Rattle.njh_answer.specs.Owners.{owner_for}
use Rattle.njh_answer.specs.declared.ticket.Ticket.{Ticket}
use Rattle.njh_answer.specs.declared.work.Work.{Work}
use Rattle.njh_answer.specs.declared.work.Work.TheVariants.{Customer, Line, Stop, Tables}

-- the customer for whom something is ordered
abbrev pub customer_of : TableFile → Order → Option (List ℕ)
customer_of tables (order.Command c owner text) = Some (customer_at tables c).name
customer_of tables (order.Message c whom text) = Some (customer_at tables c).name
customer_of tables (order.Line id wish) = None
customer_of tables (order.Stop moment) = None
customer_of tables order.Reload = None
customer_of tables (order.Diff path) = None

abbrev pub ticket_of : ℕ → TableFile → Terms → Order → Ticket
ticket_of n tables terms what =
    record { number = n; customer = customer_of tables what; terms = terms; order = what }

abbrev pub is_past : ℕ → Option ℕ → Bool
is_past now None = false
is_past now (Some until) = nat_lt until now

-- the last second in which it may be carried out is over
abbrev pub is_late : ℕ → Terms → Bool
is_late now terms = is_past now terms.until

abbrev pub command_work : ℕ → List ℕ → Result User RequestRefusal → Result Work RequestRefusal
command_work c text (Err why) = Err why
command_work c text (Ok owner) = Ok (Customer c (given.Command owner text))

-- what is done for an order; a command is carried out in its owner's name, or there is none
abbrev pub work_for : List Part → Order → Result Work RequestRefusal
work_for parts (order.Command c owner text) =
    command_work c text (owner_for owner text (part c parts).customer.spool.whole)
work_for parts (order.Message c whom text) = Ok (Customer c (given.Message whom text))
work_for parts (order.Line id wish) = Ok (Line id wish)
work_for parts (order.Stop moment) = Ok (Stop moment)
work_for parts order.Reload = Ok Tables
work_for parts (order.Diff path) = Ok Tables
