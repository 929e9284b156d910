-- What holds of each answer: its status is one of HTTP, and what is done for an order is what was ordered.
use Rattle.std.proofs.Common.{◌≡◌, ℕ, Bool, true, false, cond, List, arith, refl, subst, Option, Some, None}
use Rattle.std.proofs.Common.{Result, Ok, Err}
use Rattle.http.specs.StatusCode.{IsStatusCode}
use Rattle.serde_json.specs.Data.{Data}
use Rattle.njh_ebcdic.specs.Users.{User}
use Rattle.njh_hub.specs.WholeHub.{Part, part}
use Rattle.njh_request.specs.Refusals.{status_of}
use Rattle.njh_request.specs.declared.order.Order.{Order}
use Rattle.njh_request.specs.declared.order.Order.TheVariants as order
use Rattle.njh_request.specs.declared.refusal.RequestRefusal.{RequestRefusal}
use Rattle.njh_request.specs.declared.refusal.RequestRefusal.TheVariants as refusal
use Rattle.njh_request.specs.declared.request.Request as asked
use Rattle.njh_request.specs.declared.request.Request.TheVariants as request
use Rattle.njh_request.specs.declared.terms.Terms.{Terms}
use Rattle.njh_request.specs.Same.{are_same_terms, is_same_order}
use Rattle.njh_answer.specs.Answers.{Told, again_told, answer_of, named_told, order_told, ordered, refuses, shows_or_refuses}
use Rattle.njh_answer.specs.Answers.{takes, takes_work}
use Rattle.njh_answer.specs.Orders.{is_called}
use Rattle.njh_answer.specs.Owners.{owner_for}
use Rattle.njh_answer.specs.Tickets.{command_work, is_late, ticket_of, work_for}
use Rattle.njh_answer.specs.declared.answering.Deed.TheVariants as deed
use Rattle.njh_answer.specs.declared.orders.OrderRecord.{OrderRecord}
use Rattle.njh_answer.specs.declared.ticket.Ticket.{Ticket}
use Rattle.njh_answer.specs.declared.views.ServiceView.{ServiceView}
use Rattle.njh_answer.specs.declared.work.Work.{Work}
use Rattle.njh_answer.specs.declared.work.Work.TheVariants as work
use Rattle.njh_customer.specs.declared.given_order.GivenOrder.TheVariants as given
use Rattle.njh_console.specs.Acts.{IsSound}
use Rattle.njh_console.specs.Orders.{TakenOrders, IsWorkFor}
use Rattle.njh_console.specs.Scenes.{Scene}
use Rattle.std.specs.Prelude.{find, ◌&&◌}

refusal-status : (r : RequestRefusal) → IsStatusCode (status_of r)
refusal-status (refusal.NoResource path) = (omega arith, omega arith)
refusal-status (refusal.NoCustomer name) = (omega arith, omega arith)
refusal-status (refusal.NoLine name) = (omega arith, omega arith)
refusal-status (refusal.BadMethod methods) = (omega arith, omega arith)
refusal-status refusal.BadPlace = (omega arith, omega arith)
refusal-status refusal.NoPlace = (omega arith, omega arith)
refusal-status refusal.NotJson = (omega arith, omega arith)
refusal-status (refusal.UnknownMember key) = (omega arith, omega arith)
refusal-status (refusal.RepeatedMember m) = (omega arith, omega arith)
refusal-status (refusal.MissingMember m) = (omega arith, omega arith)
refusal-status (refusal.BadMember m) = (omega arith, omega arith)
refusal-status refusal.NotACommand = (omega arith, omega arith)
refusal-status refusal.NoOwner = (omega arith, omega arith)
refusal-status (refusal.NoFile name) = (omega arith, omega arith)
refusal-status (refusal.NoOrder key) = (omega arith, omega arith)
refusal-status (refusal.NameTaken name) = (omega arith, omega arith)
refusal-status refusal.TooLate = (omega arith, omega arith)
refusal-status refusal.GiverGone = (omega arith, omega arith)
refusal-status refusal.NoWay = (omega arith, omega arith)
refusal-status refusal.QueueFull = (omega arith, omega arith)
refusal-status refusal.SeveralOwners = (omega arith, omega arith)
refusal-status refusal.Busy = (omega arith, omega arith)
refusal-status refusal.NotKept = (omega arith, omega arith)
refusal-status refusal.TooLong = (omega arith, omega arith)

pub refused : (since : ℕ) (r : RequestRefusal) → IsSound (refuses since r)
refused since r = record { status_known = refusal-status r; deed_known = tt }

shown : (since : ℕ) (told : Result Data RequestRefusal) → IsSound (shows_or_refuses since told)
shown since (Ok d) = record { status_known = (omega arith, omega arith); deed_known = tt }
shown since (Err r) = refused since r

-- ---- what is done for an order is what was ordered

command-fits : (c : ℕ) (said : Option User) (text : List ℕ) (owner : Result User RequestRefusal) (what : Work)
    → command_work c text owner ≡ Ok what → IsWorkFor (order.Command c said text) what
command-fits c said text (Ok user) what is =
    let done : work.Customer c (given.Command user text) ≡ what = cc in
    subst (λ (w : Work). IsWorkFor (order.Command c said text) w) done (refl, refl)
command-fits c said text (Err why) what is = absurd (cc)

work-fits : (parts : List Part) (o : Order) (what : Work) → work_for parts o ≡ Ok what → IsWorkFor o what
work-fits parts (order.Command c owner text) what is =
    command-fits c owner text (owner_for owner text (part c parts).customer.spool.whole) what is
work-fits parts (order.Message c whom text) what is =
    let done : work.Customer c (given.Message whom text) ≡ what = cc in
    subst (λ (w : Work). IsWorkFor (order.Message c whom text) w) done (refl, refl, refl)
work-fits parts (order.Line id wish) what is =
    let done : work.Line id wish ≡ what = cc in
    subst (λ (w : Work). IsWorkFor (order.Line id wish) w) done (refl, refl)
work-fits parts (order.Stop moment) what is =
    let done : work.Stop moment ≡ what = cc in
    subst (λ (w : Work). IsWorkFor (order.Stop moment) w) done refl
work-fits parts order.Reload what is =
    let done : work.Tables ≡ what = cc in subst (λ (w : Work). IsWorkFor order.Reload w) done tt
work-fits parts (order.Diff path) what is =
    let done : work.Tables ≡ what = cc in subst (λ (w : Work). IsWorkFor (order.Diff path) w) done tt

taken-sound : (since : ℕ) (ticket : Ticket) (done : Result Work RequestRefusal)
    → ((what : Work) → done ≡ Ok what → IsWorkFor ticket.order what) → IsSound (takes_work since ticket done)
taken-sound since ticket (Ok what) fits =
    record { status_known = (omega arith, omega arith); deed_known = fits what refl }
taken-sound since ticket (Err why) fits = refused since why

either-sound : (which : Bool) (one other : Told) → IsSound one → IsSound other → IsSound (cond which one other)
either-sound true one other first second = first
either-sound false one other first second = second

again-sound : (since : ℕ) (name : List ℕ) (ticket : Ticket) (terms : Terms) (what : Order)
    → IsSound (again_told since name ticket terms what)
again-sound since name ticket terms what =
    either-sound (is_same_order ticket.order what && are_same_terms ticket.terms terms)
    (takes since ticket.number deed.Nothing) (refuses since (refusal.NameTaken name))
    (record { status_known = (omega arith, omega arith); deed_known = tt }) (refused since (refusal.NameTaken name))

named-sound : (service : ServiceView) (name : List ℕ) (known : Option OrderRecord) (terms : Terms) (what : Order)
    (new : Told) → IsSound new → IsSound (named_told service name known terms what new)
named-sound service name None terms what new sound = sound
named-sound service name (Some known) terms what new sound =
    again-sound service.since name known.ticket terms what

ordered-sound : (name : Option (List ℕ)) (orders : List OrderRecord) (service : ServiceView) (terms : Terms)
    (what : Order) (new : Told) → IsSound new → IsSound (ordered name orders service terms what new)
ordered-sound None orders service terms what new sound = sound
ordered-sound (Some name) orders service terms what new sound =
    named-sound service name (find (is_called name) orders) terms what new sound

new-sound : (s : Scene) (next : ℕ) (terms : Terms) (what : Order)
    → IsSound (order_told s.parts s.tables s.service next terms what)
new-sound s next terms what =
    let ticket : Ticket = ticket_of next s.tables terms what in
    either-sound (is_late s.service.clock terms) (refuses s.service.since refusal.TooLate)
    (takes_work s.service.since ticket (work_for s.parts what)) (refused s.service.since refusal.TooLate)
    (taken-sound s.service.since ticket (work_for s.parts what) (λ done is. work-fits s.parts what done is))

pub answered : (s : Scene) (o : TakenOrders) (r : asked.Request)
    → IsSound (answer_of r s.parts s.tables s.service s.lines s.arrivals o.records o.next)
answered s o request.Status = record { status_known = (omega arith, omega arith); deed_known = tt }
answered s o (request.Customers from) = record { status_known = (omega arith, omega arith); deed_known = tt }
answered s o (request.Lines c from) = record { status_known = (omega arith, omega arith); deed_known = tt }
answered s o (request.Files c from) = record { status_known = (omega arith, omega arith); deed_known = tt }
answered s o (request.Outcome key) = shown s.service.since _
answered s o (request.Order terms what) =
    ordered-sound terms.name o.records s.service terms what
    (order_told s.parts s.tables s.service o.next terms what) (new-sound s o.next terms what)
