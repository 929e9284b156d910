use Rattle.std.proofs.Common.{◌≡◌, ◌<◌, ◌∙◌, ℕ, List, length, slice_set, ap, refl, subst, sym, rules, arith, inl}
use Rattle.std.proofs.Common.{None}
use Rattle.std.proofs.lemmas.List.{get_or_read}
use Rattle.njh_spool.specs.Spools as spools
use Rattle.njh_table.specs.TableFile.{customer_at, entry_of}
use Rattle.njh_customer.specs.Orders.{part_after_order, replies_to}
use Rattle.njh_customer.specs.Part.{Lines, part_with}
use Rattle.njh_hub.specs.Parts.{lines_at, no_lines, parts_of}
use Rattle.njh_hub.specs.code.HubInvariant.{IsHub}
use Rattle.njh_hub.specs.WholeHub.{Part, part, refusal_of}
use Rattle.njh_hub.proofs.PartsLaws.{customer-known, hub-moved, length-parts_of, lines-stay, others-stay}
use Rattle.njh_hub.proofs.PartsLaws.{part-there}
use Rattle.njh_hub.proofs.GivenOrderLaws.{Ordered, lines-ordered, ordered, parts-ordered, refused_so}
use Rattle.njh_hub.proofs.hub.Hub.order.Goals.{After-self-1}
use Rattle.njh_hub.proofs.hub.Hub.order.Goals as goal

there : (c : After-self-1) → c.args.customer < length c.self.inside.shared.tables.customers
there c = omega (arith, c.self.inside.lines.ok.0, c.self.invariant.lined)

known : (c : After-self-1) → c.args.customer < length c.args.self.now
known c =
    let s = c.self.inside in
    customer-known s.shared.tables s.shared.spool s.lines.items c.args.self.now c.args.customer c.self.view_is (there c)

-- the customer's part, as it is kept
part_is : (c : After-self-1) → let s = c.self.inside in let n = c.args.customer in
    part_with (entry_of (customer_at s.shared.tables n)) (spools.spool_at n s.shared.spool)
    (lines_at n s.lines.items) ≡ part n c.args.self.now
part_is c =
    let s = c.self.inside in
    sym (part-there s.shared.tables s.shared.spool s.lines.items c.args.customer (there c))
    ∙ ap (part c.args.customer) c.self.view_is

lines_are : (c : After-self-1) → c.index_mut-lines.result.now ≡ lines_at c.args.customer c.self.inside.lines.items
lines_are c =
    let s = c.self.inside in
    let x = c.index_mut-lines.result.now in
    get_or_read s.lines.items c.args.customer x (omega (arith, s.lines.ok.0)) (search rules) no_lines

order_is : (c : After-self-1) → Ordered c.self.inside.shared.tables c.self.inside.shared.spool
    c.self.inside.lines.items c.args.customer c.args.order.now c.order.new.spool c.order.new.self
order_is c =
    let s = c.self.inside in
    let n = c.args.customer in
    let entry = entry_of (customer_at s.shared.tables n) in
    let P : Lines → Type 0 = λ y. part_with entry (spools.spool_at n c.order.new.spool) c.order.new.self
    ≡ part_after_order c.args.order.now (part_with entry (spools.spool_at n s.shared.spool) y) in
    record {
      hub = c.self.invariant;
      there = there c;
      others = c.order.ensures.others;
      is = subst P (lines_are c) c.order.ensures.part;
    }

abbrev new_part : (c : After-self-1) → Part
new_part c = part_after_order c.args.order.now (part c.args.customer c.args.self.now)

leads : (c : After-self-1) → parts_of c.self.inside.shared.tables c.order.new.spool
    (slice_set c.self.inside.lines.items c.from-2.result c.order.new.self)
    ≡ slice_set c.args.self.now c.args.customer (new_part c)
leads c =
    let s = c.self.inside in
    ap (λ (n : ℕ). parts_of s.shared.tables c.order.new.spool (slice_set s.lines.items n c.order.new.self))
    c.from-2.ensures
    ∙ parts-ordered (order_is c)
    ∙ ap (λ (ps : List Part). slice_set ps c.args.customer
    (part_after_order c.args.order.now (part c.args.customer ps))) c.self.view_is

accepted : (c : After-self-1) → refusal_of c.args.order.now (part c.args.customer c.args.self.now) ≡ None
accepted c = sym c.refusal_of.ensures ∙ search rules

pub invariant_of-self : goal.invariant_of-self
invariant_of-self c =
    let s = c.self.inside in
    subst (λ (n : ℕ). IsHub s.shared.tables c.order.new.spool (slice_set s.lines.items n c.order.new.self))
    (sym c.from-2.ensures) (hub-moved (ordered (order_is c)))

pub returns-clause-step : goal.returns-clause-step
returns-clause-step c = record {
  hub = leads c;
  stays = record {
    others = λ d apart. ap (part d) (leads c) ∙ others-stay c.args.self.now c.args.customer (new_part c) d apart;
    lines = λ d. ap (λ (ps : List Part). length (part d ps).customer.lines) (leads c)
        ∙ lines-stay c.args.self.now c.args.customer (new_part c) (known c)
        (lines-ordered c.args.order.now (part c.args.customer c.args.self.now)) d;
    err = search rules;
  };
  known = known c;
  taken = accepted c;
  unknown = λ nowhere. absurd (nowhere (known c));
  refused = λ here why is. absurd (cc (sym (accepted c) ∙ is));
  causes = search rules;
}

pub returns-clause-replies : goal.returns-clause-replies
returns-clause-replies c =
    c.order.ensures.replies ∙ ap (λ (p : Part). replies_to c.args.order.now p.customer)
    (ap (part_with (entry_of (customer_at c.self.inside.shared.tables c.args.customer))
    (spools.spool_at c.args.customer c.self.inside.shared.spool)) (lines_are c) ∙ part_is c)

-- ---- where the hub has no such customer

pub returns-then-from-len-clause-step : goal.returns-then-from-len-clause-step
returns-then-from-len-clause-step c =
    let s = c.self.inside in
    let count = length-parts_of s.shared.tables s.shared.spool s.lines.items in
    let nowhere : c.args.customer < length c.args.self.now → ⊥ = λ here. omega (
      arith,
      here,
      count,
      ap (λ (ps : List Part). length ps) c.self.view_is,
      s.lines.ok.0,
      c.self.invariant.lined,
    ) in
    record {
      hub = search rules;
      stays = search rules;
      known = search rules;
      taken = search rules;
      unknown = λ _. refl;
      refused = λ here why is. absurd (nowhere here);
      causes = inl (refl, nowhere);
    }

-- ---- where the order is refused

pub refusal_of-requires : goal.refusal_of-requires
refusal_of-requires c =
    let s = c.self.inside in
    let is : c.args.customer < length s.shared.tables.customers = omega (arith, s.lines.ok.0, c.self.invariant.lined) in
    customer-known s.shared.tables s.shared.spool s.lines.items c.args.self.now c.args.customer c.self.view_is is

pub returns-in-Some-clause-step : goal.returns-in-Some-clause-step
returns-in-Some-clause-step c =
    let s = c.self.inside in
    let is : c.args.customer < length s.shared.tables.customers = omega (arith, s.lines.ok.0, c.self.invariant.lined) in
    refused_so c.args.self.now c.args.customer c.args.order.now c.in-Some.fault
    (customer-known s.shared.tables s.shared.spool s.lines.items c.args.self.now c.args.customer c.self.view_is is)
    (cc (c.refusal_of.ensures, c.in-Some.is))
