-- What an order does to a customer.
use Rattle.njh_customer.proofs.Words
use Words.{ℕ, List, fold, refl, sym, ap, inl, inr, subst, false, User, Route, Here, Line}
use Words.{Unknown, route_of, notice_record, message_outcome, without_sending, goes}
use Words.{Customer, CustomerLine, LeadsByMoves, nowhere, onward, OrderMoves, OrdersDoSo, OrdersDoAsCommands}
use Words.{GivenOrder, customer_after_order, has_way, leads_to_line, outgoing, streams_from_hub, Part, sender_of}
use Words.{part_after_order, entry_with, with_marks}
use Rattle.{std.proofs.Common.{◌≡◌, ◌⊎◌}, njh_command.proofs.CommandMoves.files_move}
use Rattle.njh_customer.proofs.ActingMoves.{nothing_moves, command_moves, commanded, told}
use Rattle.njh_customer.proofs.{LineWalks.{lines_of, order_entry, order_keeps, told_so}, OutgoingLaws.of_parts}
use Rattle.njh_customer.proofs.OutgoingLaws.{senders_receiving}
use Rattle.njh_customer.specs.declared.given_order.GivenOrder.TheVariants as orders

-- a message moves no stream
message_outgoing : (whom : User) (text : List ℕ) (c : Customer)
    → outgoing (customer_after_order (orders.Message whom text) c) ≡ outgoing c
message_outgoing whom text c = ap (of_parts c.spool.whole c.spool.arrived)
    (told_so 0 (λ lines. streams_from_hub lines ≡ streams_from_hub c.lines) (senders_receiving 0 c.lines).waiting
    c.entry whom text c.lines refl)

-- nothing moves, or what the command moves
abbrev pub MovesByOrder : GivenOrder → Customer → Type 0
MovesByOrder order c = let after = outgoing (customer_after_order order c) in
    (after ≡ outgoing c) ⊎ OrderMoves c.entry order (outgoing c) after

pub order_moves_so : (order : GivenOrder) (c : Customer) → MovesByOrder order c
order_moves_so (orders.Message whom text) c = inl (message_outgoing whom text c)
order_moves_so (orders.Command owner text) c =
    let done = message_outcome c.entry owner text c.spool in
    elim (commanded c owner text done (streams_from_hub (fold without_sending c.lines done.cancelled)) refl
    (files_move c.entry owner text c.spool)) [
      | nothing_moves same ↦ inl same
      | command_moves command says move ↦ inr (record {
        who = owner;
        command = command;
        given = record { text = text; is_command = refl; says = says };
        moves = move;
      })
    ]

pub order_moves : (order : GivenOrder) (c : Customer)
    → LeadsByMoves (OrderMoves c.entry order) (outgoing c) (outgoing (customer_after_order order c))
order_moves order c =
    let y = outgoing (customer_after_order order c) in
    elim (order_moves_so order c) [
      | inl same ↦ subst (LeadsByMoves (OrderMoves c.entry order) (outgoing c)) (sym same) (nowhere (outgoing c))
      | inr move ↦ onward (outgoing c) y y move (nowhere y)
    ]

-- of the entry nothing is changed
pub order_keeps_entry : (order : GivenOrder) (c : Customer) → let after = (customer_after_order order c).entry in
    after ≡ entry_with after.routes (with_marks after.up c.entry)
order_keeps_entry (orders.Command owner text) c = refl
order_keeps_entry (orders.Message whom text) c = refl

order_partial : (order : GivenOrder) (c : Customer)
    → (customer_after_order order c).spool.partial ≡ c.spool.partial
order_partial (orders.Command owner text) c = refl
order_partial (orders.Message whom text) c = refl

goes_nowhere : (r : Route) (m : List ℕ) (lines : List CustomerLine) → leads_to_line r ≡ false → goes r m lines ≡ lines
goes_nowhere Here m lines e = refl
goes_nowhere (Line l) m lines e = absurd (cc e)
goes_nowhere Unknown m lines e = refl

no_way : (order : GivenOrder) (p : Part) → has_way p.customer.entry order ≡ false → part_after_order order p ≡ p
no_way (orders.Command owner text) p e = absurd (cc e)
no_way (orders.Message whom text) p e =
    let c = p.customer in
    ap (λ (lines : List CustomerLine). record p { customer = record c { lines = lines } })
    (goes_nowhere (route_of c.entry whom.node) (notice_record c.entry.hub whom text) c.lines e)

pub orders_do : OrdersDoSo
orders_do p order = record {
  sent = refl;
  rests = refl;
  entry = order_entry order p.customer;
  lines = lines_of p.customer (customer_after_order order p.customer) (order_keeps order p.customer);
  partial = order_partial order p.customer;
  without_way = no_way order p;
}

pub do_as_commands : OrdersDoAsCommands
do_as_commands n c =
    let done = message_outcome c.entry (sender_of n) n.message c.spool in
    record { spool = refl; outgoing_is = sym (ap (of_parts done.files c.spool.arrived) (told n done c)) }
