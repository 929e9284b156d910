-- The parts of a hub one of whose customers was given an order.
use Rattle.std.proofs.Common.{◌≡◌, ℕ, ◌<◌, true, false, List, length, set, slice_set, Some, None, ap, ap₂, sym, subst}
use Rattle.std.proofs.Common.{◌∙◌, arith, Bool, cond, [], ◌∷◌, ◌++◌, refl, ◌⊎◌, inl, inr, Err}
use Rattle.std.proofs.lemmas.List.{get_or-set_same}
use Rattle.njh_spool.specs.CustomerSpool.{CustomerSpool}
use Rattle.njh_spool.specs.Spools as spools
use Rattle.njh_table.specs.TableFile.{TableFile, customer_at, entry_of, no_customer}
use Rattle.njh_table.specs.declared.Route.{Route}
use Rattle.njh_line.specs.Lines.{has_message_room, with_message}
use Rattle.njh_customer.specs.Customer.{CustomerLine, IsMarked, in_state, line_at, no_customer_line}
use Rattle.njh_customer.specs.code.Coherence.{IsCoherent}
use Rattle.njh_customer.specs.Orders.{has_room, has_room_by, has_way, leads_to_line}
use Rattle.njh_customer.specs.Orders.{message_record, part_after_order}
use Rattle.njh_customer.specs.Part.{Part, Lines, part_with}
use Rattle.njh_customer.specs.Runs.{OwnOrder}
use Rattle.njh_customer.specs.Waiting.{goes}
use Rattle.njh_hub.specs.Laws.{TakenMessagesWait}
use Rattle.njh_customer.specs.declared.given_order.GivenOrder.{GivenOrder}
use Rattle.njh_customer.proofs.CoherenceLaws.{order_coherent}
use Rattle.njh_customer.proofs.GivenOrders.{orders_do}
use Rattle.njh_customer.proofs.MarkLaws.{marks_right}
use Rattle.njh_hub.specs.WholeHub.{part, refusal_by, refusal_of}
use Rattle.njh_hub.specs.Steps.{IsOrdered}
use Rattle.njh_hub.specs.declared.fault.HubFault.{HubFault}
use Rattle.njh_hub.specs.declared.fault.HubFault.TheVariants.{NoRoute, QueueFull}
use Rattle.njh_hub.specs.Parts.{no_lines, part_held, parts_of}
use Rattle.njh_hub.specs.code.HubInvariant.{IsHub}
use Rattle.njh_hub.proofs.PartsLaws.{DifferAt, Moves, differ-nowhere, differ-set, part-there, parts-moved}

-- A customer's files and lines have become others by an order.
pub record Ordered (table : TableFile) (files : List CustomerSpool) (lines : List Lines) (c : ℕ) (order : GivenOrder)
    (after : List CustomerSpool) (y : Lines) : Type 0 where
  pub hub : IsHub table files lines
  pub there : c < length table.customers
  pub others : after ≡ slice_set files c (spools.spool_at c after)
  pub is : part_with (entry_of (customer_at table c)) (spools.spool_at c after) y
      ≡ part_after_order order (part_held table files lines c)

-- its part is another
pub held-ordered : {table : TableFile} {files : List CustomerSpool} {lines : List Lines} {c : ℕ} {order : GivenOrder}
    {after : List CustomerSpool} {y : Lines} → Ordered table files lines c order after y
    → part_held table after (set lines c y) c ≡ part_after_order order (part_held table files lines c)
held-ordered {table} {files} {lines} {c} {order} {after} {y} r =
    ap (part_with (entry_of (customer_at table c)) (spools.spool_at c after))
    (get_or-set_same lines c y no_lines (omega (arith, r.there, r.hub.lined))) ∙ r.is

pub ordered : {table : TableFile} {files : List CustomerSpool} {lines : List Lines} {c : ℕ} {order : GivenOrder}
    {after : List CustomerSpool} {y : Lines} → Ordered table files lines c order after y
    → Moves table files lines c table after (set lines c y)
ordered {table} {files} {lines} {c} {order} {after} {y} r =
    let old = part_held table files lines c in
    record {
      hub = r.hub;
      there = r.there;
      in_table = differ-nowhere no_customer c table.customers;
      in_files = subst (λ (ss : List CustomerSpool). DifferAt spools.no_spool c files ss) (sym r.others)
          (differ-set spools.no_spool c files (spools.spool_at c after));
      in_lines = differ-set no_lines c lines y;
      coherent = subst (λ (p : Part). IsCoherent p.customer) (sym (held-ordered r))
          (order_coherent order old.customer (r.hub.coherent c r.there));
      marked = subst (λ (p : Part). IsMarked p.customer) (sym (held-ordered r))
          (marks_right.events old (OwnOrder order) (r.hub.marked c r.there));
    }

pub parts-ordered : {table : TableFile} {files : List CustomerSpool} {lines : List Lines} {c : ℕ} {order : GivenOrder}
    {after : List CustomerSpool} {y : Lines} → Ordered table files lines c order after y
    → parts_of table after (set lines c y) ≡ set (parts_of table files lines) c
    (part_after_order order (part c (parts_of table files lines)))
parts-ordered {table} {files} {lines} {c} {order} {after} {y} r =
    let old = parts_of table files lines in
    parts-moved (ordered r)
    ∙ ap (set old c) (held-ordered r ∙ ap (part_after_order order) (sym (part-there table files lines c r.there)))

-- it has as many lines
pub lines-ordered : (order : GivenOrder) (p : Part) → length (part_after_order order p).customer.lines
    ≡ length p.customer.lines
lines-ordered order p = (orders_do p order).lines

-- ---- whether it is refused, by its way and its room

module _ (order : GivenOrder) (p : Part) where
  pub without_way : has_way p.customer.entry order ≡ false → refusal_of order p ≡ Some NoRoute
  without_way none = ap (λ way. refusal_by way (has_room p.customer.entry p.customer.lines order)) none

  pub without_room : has_way p.customer.entry order ≡ true
      → has_room p.customer.entry p.customer.lines order ≡ false → refusal_of order p ≡ Some QueueFull
  without_room way none = ap₂ refusal_by way none

  pub with_both : has_way p.customer.entry order ≡ true → has_room p.customer.entry p.customer.lines order ≡ true
      → refusal_of order p ≡ None
  with_both way room = ap₂ refusal_by way room

-- ---- one that isn't refused

room_of : (room : Bool) → refusal_by true room ≡ None → room ≡ true
room_of false none = absurd (cc none)
room_of true none = refl

pub taken_messages_wait : TakenMessagesWait
taken_messages_wait p whom text l taken goes_by there =
    let lines = p.customer.lines in
    let message = message_record p.customer.entry whom text in
    let x = line_at l lines in
    let room : has_message_room x.state ≡ true = room_of (has_message_room x.state)
    (subst (λ (r : Route). refusal_by (leads_to_line r) (has_room_by r lines) ≡ None) goes_by taken) in
    ap (λ (r : Route). (line_at l (goes r message lines)).state.messages) goes_by
    ∙ ap (λ (y : CustomerLine). y.state.messages)
    (get_or-set_same lines l (in_state (with_message message) x) no_customer_line there)
    ∙ ap (λ (b : Bool). cond b (x.state.messages ++ message ∷ []) x.state.messages) room

-- ---- one that is refused

which : (way room : Bool) (why : HubFault) → refusal_by way room ≡ Some why → (why ≡ NoRoute) ⊎ (why ≡ QueueFull)
which false room why is = inl (cc is)
which true false why is = inr (cc is)
which true true why is = absurd (cc is)

pub refused_so : {A : Type 0} (parts : List Part) (c : ℕ) (order : GivenOrder) (why : HubFault) → c < length parts
    → refusal_of order (part c parts) ≡ Some why → IsOrdered {A = A} parts c order (Err why) parts
refused_so parts c order why there is =
    let p = part c parts in
    record {
      hub = tt;
      stays = record { others = λ d apart. refl; lines = λ d. refl; err = refl };
      known = tt;
      taken = tt;
      unknown = λ nowhere. absurd (nowhere there);
      refused = λ here other same. cc (is, same);
      causes = elim (which (has_way p.customer.entry order) (has_room p.customer.entry p.customer.lines order) why is) [
        | inl wayless ↦ inr (inl (ap Err wayless, there, is ∙ ap Some wayless))
        | inr full ↦ inr (inr (ap Err full, there, is ∙ ap Some full))
      ];
    }
