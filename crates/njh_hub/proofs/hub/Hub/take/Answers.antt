use Rattle.std.proofs.Common.{◌≡◌, ℕ, ◌∙◌, List, length, get_or, slice_set, ap, subst, sym, rules, arith}
use Rattle.njh_customer.specs.Part.{part_after_bytes, part_with}
use Rattle.njh_hub.specs.Parts.{parts_of}
use Rattle.njh_hub.specs.code.HubInvariant.{IsHub}
use Rattle.njh_hub.specs.WholeHub.{Part, HasLine, part}
use Rattle.njh_hub.proofs.PartsLaws.{Found, Stepped, found, hub-moved, line-there, others-stay, step-leads, step-lines}
use Rattle.njh_hub.proofs.PartsLaws.{stepped}
use Rattle.njh_spool.specs.Spools as spools
use Rattle.njh_table.specs.TableFile.{customer_at, entry_of}
use Rattle.njh_customer.specs.Customer.{IsMarked}
use Rattle.njh_customer.proofs.MarkLaws.{marks_right}
use Rattle.njh_hub.proofs.hub.Hub.take.Goals.{After-drop-out}
use Rattle.njh_hub.proofs.hub.Hub.take.Goals as goal

pub index_mut-lines-requires : goal.index_mut-lines-requires
index_mut-lines-requires c =
    let s = c.self.inside in
    let known = subst (λ ps. HasLine ps c.args.id) (sym c.self.view_is) c.in_ok-frame.ensures.known in
    omega (
      arith,
      line-there s.shared.tables s.shared.spool s.lines.items c.args.id known,
      c.self.invariant.lined,
      s.lines.ok.0,
    )

pub take_bytes-taken-requires : goal.take_bytes-taken-requires
take_bytes-taken-requires c =
    let s = c.self.inside in
    let x = c.index_mut-lines.result.now in
    let here : x ≡ get_or s.lines.items c.args.id.customer x = search rules in
    let f = found s.shared s.lines.items c.args.self.now c.args.id x c.self.invariant c.self.view_is
    c.in_ok-frame.ensures.known here in
    record { ready = f.ready }

-- what the step finds, and what it leads to
finds : (c : After-drop-out) → Found c.self.inside.shared c.self.inside.lines.items c.args.self.now c.args.id
    c.index_mut-lines.result.now
finds c =
    let s = c.self.inside in
    let x = c.index_mut-lines.result.now in
    let here : x ≡ get_or s.lines.items c.args.id.customer x = search rules in
    found s.shared s.lines.items c.args.self.now c.args.id x c.self.invariant c.self.view_is c.in_ok-frame.ensures.known
    here

steps : (c : After-drop-out) → Stepped c.self.inside.shared c.index_mut-lines.result.now c.args.id
    c.take_bytes-taken.new.shared c.take_bytes-taken.new.self
steps c =
    let s = c.self.inside in
    let t = c.take_bytes-taken in
    let n = c.args.id.customer in
    let p = part_with (entry_of (customer_at s.shared.tables n)) (spools.spool_at n s.shared.spool)
    c.index_mut-lines.result.now in
    record {
      in_table = t.ensures.step.entries;
      in_files = t.ensures.step.others;
      ready = t.ensures.step.ready;
      marked = subst (λ (q : Part). IsMarked q.customer) (sym t.ensures.step.part)
          (marks_right.takes p c.args.id.number c.args.piece.now (finds c).marked);
      count = t.ensures.step.count;
    }

-- the line's customer afterwards
abbrev after : (c : After-drop-out) → Part
after c = let p = part c.args.id.customer c.args.self.now
    in (part_after_bytes p c.args.id.number c.args.piece.now).after

leads : (c : After-drop-out)
    → parts_of c.take_bytes-taken.new.shared.tables c.take_bytes-taken.new.shared.spool
    (slice_set c.self.inside.lines.items c.from.result c.take_bytes-taken.new.self)
    ≡ slice_set c.args.self.now c.args.id.customer (after c)
leads c =
    let t = c.take_bytes-taken in
    ap (λ (n : ℕ). parts_of t.new.shared.tables t.new.shared.spool (slice_set c.self.inside.lines.items n t.new.self))
    c.from.ensures
    ∙ step-leads (finds c) (steps c) (after c)
    (t.ensures.step.part ∙ ap (λ (p : Part). (part_after_bytes p c.args.id.number c.args.piece.now).after)
    (finds c).part_is)

pub invariant_of-self : goal.invariant_of-self
invariant_of-self c =
    let t = c.take_bytes-taken in
    subst (λ (n : ℕ). IsHub t.new.shared.tables t.new.shared.spool (slice_set c.self.inside.lines.items n t.new.self))
    (sym c.from.ensures)
    (hub-moved (stepped (finds c) (steps c)))

pub returns-clause-taken : goal.returns-clause-taken
returns-clause-taken c =
    c.take_bytes-taken.ensures.taken ∙ ap (λ (p : Part). (part_after_bytes p c.args.id.number c.args.piece.now).taken)
    (finds c).part_is

pub returns-clause-step : goal.returns-clause-step
returns-clause-step c =
    let t = c.take_bytes-taken in
    let known = c.in_ok-frame.ensures.known in
    record {
      hub = leads c;
      others = λ d apart. ap (part d) (leads c) ∙ others-stay c.args.self.now c.args.id.customer (after c) d apart;
      frame = c.into_bytes.ensures.bytes ∙ t.ensures.step.frame
          ∙ ap (λ (p : Part). (part_after_bytes p c.args.id.number c.args.piece.now).frame) (finds c).part_is;
      lines = λ d. ap (λ (ps : List Part). length (part d ps).customer.lines) (leads c)
          ∙ step-lines (finds c) (steps c) (after c)
          (t.ensures.step.part ∙ ap (λ (p : Part). (part_after_bytes p c.args.id.number c.args.piece.now).after)
          (finds c).part_is) d;
      room = c.into_bytes.ensures.room;
      known = known;
      unknown = λ nowhere. absurd (nowhere known);
      memory = λ _. search rules;
      err = search rules;
    }
