-- What is answered to a request: a status of HTTP and JSON, over the hub's value, its tables, and what the service
-- knows; and what is ordered by it. Each answer has since when the service runs: names of orders end with it.
use Rattle.std.specs.Prelude.{ℕ, ◌&&◌, List, codes, cond, find, Option, Some, None, Result, Ok, Err}
use Rattle.serde_json.specs.Data as json
use Rattle.serde_json.specs.Data.{Data, number, unsigned, string, object, member, no_members, put}
use Rattle.serde_json.specs.View.{view}
use Rattle.njh_table.specs.TableFile.{TableFile, customer_at}
use Rattle.njh_hub.specs.WholeHub.{Part, part}
use Rattle.njh_request.specs.Refusals.{sentence_of, status_of}
use Rattle.njh_request.specs.Same.{are_same_terms, is_same_order}
use Rattle.njh_request.specs.declared.order.Order.{Order}
use Rattle.njh_request.specs.declared.refusal.RequestRefusal.{RequestRefusal}
use Rattle.njh_request.specs.declared.refusal.RequestRefusal.TheVariants.{NameTaken, TooLate}
use Rattle.njh_request.specs.declared.request.Request.{Request}
use Rattle.njh_request.specs.declared.request.Request.TheVariants as request
use Rattle.njh_request.specs.declared.terms.Terms.{Terms}
use Rattle.njh_arrivals.specs.Arrivals.{Seen, seen_of}
use Rattle.njh_answer.specs.Customers.{customers_data}
use Rattle.njh_answer.specs.Files.{files_data}
use Rattle.njh_answer.specs.Lines.{lines_data}
use Rattle.njh_answer.specs.Orders.{is_called, order_by, outcome_told}
use Rattle.njh_answer.specs.Status.{status_data}
use Rattle.njh_answer.specs.Tickets.{is_late, ticket_of, work_for}
use Rattle.njh_answer.specs.declared.answering.RequestAnswer.{RequestAnswer}
use Rattle.njh_answer.specs.declared.answering.Deed.{Deed}
use Rattle.njh_answer.specs.declared.answering.Deed.TheVariants as deed
use Rattle.njh_answer.specs.declared.orders.OrderRecord.{OrderRecord}
use Rattle.njh_answer.specs.declared.ticket.Ticket.{Ticket}
use Rattle.njh_answer.specs.declared.views.LineView.{LineView}
use Rattle.njh_answer.specs.declared.views.ServiceView.{ServiceView}
use Rattle.njh_answer.specs.declared.work.Work.{Work}

pub record Told : Type 0 where
  pub status : ℕ
  pub json : Data
  pub deed : Deed

abbrev pub told_of : RequestAnswer → Told
told_of answer = record { status = answer.status; json = view answer.value; deed = answer.deed }

-- an object with since when the service runs
abbrev pub with_since : ℕ → Data → Data
with_since since json.null = json.null
with_since since (json.boolean b) = json.boolean b
with_since since (json.number n) = json.number n
with_since since (json.string text) = json.string text
with_since since (json.array items) = json.array items
with_since since (json.object members) = json.object (put (codes "since") (number (unsigned since)) members)

-- something is told, and nothing ordered
abbrev pub shows : ℕ → Data → Told
shows since d = record { status = 200; json = with_since since d; deed = deed.Nothing }

-- {"error":"there is nothing at /v1/nothing","since":1790650000}
abbrev pub refusal_data : ℕ → RequestRefusal → Data
refusal_data since r = object (
    member (codes "error") (string (sentence_of r))
    (member (codes "since") (number (unsigned since)) no_members))

abbrev pub refuses : ℕ → RequestRefusal → Told
refuses since r = record { status = status_of r; json = refusal_data since r; deed = deed.Refused r }

abbrev pub shows_or_refuses : ℕ → Result Data RequestRefusal → Told
shows_or_refuses since (Ok d) = shows since d
shows_or_refuses since (Err r) = refuses since r

-- {"order":7,"since":1790650000}
abbrev pub takes_data : ℕ → ℕ → Data
takes_data since n = object (
    member (codes "order") (number (unsigned n))
    (member (codes "since") (number (unsigned since)) no_members))

-- an order is taken under a number, or was
abbrev pub takes : ℕ → ℕ → Deed → Told
takes since n what = record { status = 202; json = takes_data since n; deed = what }

-- ---- orders

abbrev pub takes_work : ℕ → Ticket → Result Work RequestRefusal → Told
takes_work since ticket (Err why) = refuses since why
takes_work since ticket (Ok work) = takes since ticket.number (deed.Order ticket work)

-- what is told of an order under a name that isn't remembered, or under none: it is taken, if it isn't too late
abbrev pub order_told : List Part → TableFile → ServiceView → ℕ → Terms → Order → Told
order_told parts tables service next terms what =
    cond (is_late service.clock terms) (refuses service.since TooLate)
    (takes_work service.since (ticket_of next tables terms what) (work_for parts what))

-- under a name that is: nothing is ordered. It is the same order, on the same terms, or the name is another's
abbrev pub again_told : ℕ → List ℕ → Ticket → Terms → Order → Told
again_told since name ticket terms what =
    cond (is_same_order ticket.order what && are_same_terms ticket.terms terms)
    (takes since ticket.number deed.Nothing) (refuses since (NameTaken name))

abbrev pub named_told : ServiceView → List ℕ → Option OrderRecord → Terms → Order → Told → Told
named_told service name None terms what new = new
named_told service name (Some known) terms what new = again_told service.since name known.ticket terms what

abbrev pub ordered : Option (List ℕ) → List OrderRecord → ServiceView → Terms → Order → Told → Told
ordered None orders service terms what new = new
ordered (Some name) orders service terms what new =
    named_told service name (find (is_called name) orders) terms what new

-- What is answered.
abbrev pub answer_of : Request → List Part → TableFile → ServiceView → List LineView → Seen → List OrderRecord → ℕ
    → Told
answer_of request.Status parts tables service lines seen orders next =
    shows service.since (status_data tables parts service)
answer_of (request.Customers from) parts tables service lines seen orders next =
    shows service.since (customers_data tables parts seen lines from)
answer_of (request.Lines c from) parts tables service lines seen orders next =
    shows service.since (lines_data (customer_at tables c) c (part c parts) lines from)
answer_of (request.Files c from) parts tables service lines seen orders next =
    shows service.since (files_data (customer_at tables c) (part c parts) (seen_of c seen) from)
answer_of (request.Outcome key) parts tables service lines seen orders next =
    shows_or_refuses service.since (outcome_told key (order_by key orders))
answer_of (request.Order terms what) parts tables service lines seen orders next =
    ordered terms.name orders service terms what (order_told parts tables service next terms what)
