use Rattle.std.proofs.Common.{◌≡◌, ◌<◌, ◌∙◌, List, length, slice_set, Ok, Err, ap, refl, subst, sym, rules, arith}
use Rattle.std.proofs.lemmas.List.{get_or_read}
use Rattle.njh_spool.specs.Spools as spools
use Rattle.njh_table.specs.Entries.{RouteEntry}
use Rattle.njh_table.specs.NewRoutes.{new_routes_of, routes_checked, entries_of_routes}
use Rattle.njh_table.specs.TableFile.{TableFile, customer_at, entry_of}
use Rattle.njh_customer.specs.NewRoutes.{part_after_routes}
use Rattle.njh_customer.specs.Part.{Lines, part_with}
use Rattle.njh_hub.specs.Parts.{lines_at, no_lines, parts_of}
use Rattle.njh_hub.specs.code.HubInvariant.{IsHub}
use Rattle.njh_hub.specs.WholeHub.{Part, part}
use Rattle.njh_hub.proofs.PartsLaws.{customer-known, entry-there, hub-moved, length-parts_of, lines-stay, others-stay}
use Rattle.njh_hub.proofs.SetRoutesLaws.{SetsRoutes, parts-set_routes, sets_routes}
use Rattle.njh_hub.proofs.hub.Hub.set_routes.Goals.{After-set_routes}
use Rattle.njh_hub.proofs.hub.Hub.set_routes.Goals as goal

abbrev given : (c : After-set_routes) → List RouteEntry
given c = entries_of_routes (new_routes_of c.args.customer c.args.routes.now)

there : (c : After-set_routes) → c.args.customer < length c.self.inside.shared.tables.customers
there c = omega (arith, c.self.inside.lines.ok.0, c.self.invariant.lined)

known : (c : After-set_routes) → c.args.customer < length c.args.self.now
known c =
    let s = c.self.inside in
    customer-known s.shared.tables s.shared.spool s.lines.items c.args.self.now c.args.customer c.self.view_is (there c)

checked : (c : After-set_routes)
    → routes_checked (part c.args.customer c.args.self.now).customer.entry
    (new_routes_of c.args.customer c.args.routes.now) ≡ Ok tt
checked c =
    let s = c.self.inside in
    let n = c.args.customer in
    subst (λ e. routes_checked e (new_routes_of n c.args.routes.now) ≡ Ok tt)
    (sym (entry-there s.shared.tables s.shared.spool s.lines.items c.args.self.now n c.self.view_is (there c)))
    c.in-Ok.ensures.checked

-- the customer's part with them
abbrev new_part : (c : After-set_routes) → Part
new_part c = part_after_routes (given c) (part c.args.customer c.args.self.now)

routes_set : (c : After-set_routes) → SetsRoutes c.self.inside.shared.tables c.self.inside.shared.spool
    c.self.inside.lines.items c.args.customer (given c)
    c.set_in_tables.new.tables c.set_routes.new.spool
routes_set c =
    let s = c.self.inside in
    let n = c.args.customer in
    let x = c.index-lines.result.now in
    let is : x ≡ lines_at n s.lines.items =
    get_or_read s.lines.items n x (omega (arith, s.lines.ok.0)) (search rules) no_lines in
    let entry = entry_of (customer_at c.set_in_tables.new.tables n) in
    let P : Lines → Type 0 = λ y. part_with entry (spools.spool_at n c.set_routes.new.spool) y
    ≡ part_after_routes entry.routes (part_with entry (spools.spool_at n s.shared.spool) y) in
    record {
      hub = c.self.invariant;
      there = there c;
      tables = c.in-Ok.ensures.routes;
      others = c.set_routes.ensures.others;
      is = subst P is c.set_routes.ensures.part;
    }

leads : (c : After-set_routes) → parts_of c.set_in_tables.new.tables c.set_routes.new.spool c.self.inside.lines.items
    ≡ slice_set c.args.self.now c.args.customer (new_part c)
leads c =
    parts-set_routes (routes_set c)
    ∙ ap (λ (ps : List Part). slice_set ps c.args.customer (part_after_routes (given c) (part c.args.customer ps)))
    c.self.view_is

pub invariant_of-self : goal.invariant_of-self
invariant_of-self c =
    let s = c.self.inside in
    subst (λ (t : TableFile). IsHub t s.shared.spool s.lines.items) (sym c.in-Err.ensures.err) c.self.invariant

pub invariant_of-self-2 : goal.invariant_of-self-2
invariant_of-self-2 c = hub-moved (sets_routes (routes_set c))

-- ---- where the hub has no such customer

pub returns-then-from-len-clause-refused : goal.returns-then-from-len-clause-refused
returns-then-from-len-clause-refused c =
    let s = c.self.inside in
    let count = length-parts_of s.shared.tables s.shared.spool s.lines.items in
    λ here cause told. absurd (omega (
      arith,
      here,
      count,
      ap (λ (ps : List Part). length ps) c.self.view_is,
      s.lines.ok.0,
      c.self.invariant.lined,
    ))

pub returns-then-from-len-clause-memory : goal.returns-then-from-len-clause-memory
returns-then-from-len-clause-memory c =
    let s = c.self.inside in
    let count = length-parts_of s.shared.tables s.shared.spool s.lines.items in
    λ here checked. absurd (omega (
      arith,
      here,
      count,
      ap (λ (ps : List Part). length ps) c.self.view_is,
      s.lines.ok.0,
      c.self.invariant.lined,
    ))

-- ---- where it can't have the routes, or there is no memory for them

pub returns-in-Err-clause-unknown : goal.returns-in-Err-clause-unknown
returns-in-Err-clause-unknown c =
    let s = c.self.inside in
    let is : c.args.customer < length s.shared.tables.customers = omega (arith, s.lines.ok.0, c.self.invariant.lined) in
    λ nowhere. absurd (nowhere (customer-known s.shared.tables s.shared.spool s.lines.items c.args.self.now
    c.args.customer c.self.view_is is))

pub returns-in-Err-clause-refused : goal.returns-in-Err-clause-refused
returns-in-Err-clause-refused c =
    let s = c.self.inside in
    let n = c.args.customer in
    let is : n < length s.shared.tables.customers = omega (arith, s.lines.ok.0, c.self.invariant.lined) in
    λ here cause told. c.in-Err.ensures.refused cause
    (subst (λ e. routes_checked e (new_routes_of n c.args.routes.now) ≡ Err cause)
    (entry-there s.shared.tables s.shared.spool s.lines.items c.args.self.now n c.self.view_is is) told)

pub returns-in-Err-clause-memory : goal.returns-in-Err-clause-memory
returns-in-Err-clause-memory c =
    let s = c.self.inside in
    let n = c.args.customer in
    let is : n < length s.shared.tables.customers = omega (arith, s.lines.ok.0, c.self.invariant.lined) in
    λ here checked. c.in-Err.ensures.memory
    (subst (λ e. routes_checked e (new_routes_of n c.args.routes.now) ≡ Ok tt)
    (entry-there s.shared.tables s.shared.spool s.lines.items c.args.self.now n c.self.view_is is) checked)

-- ---- where it has them

pub returns-clause-hub : goal.returns-clause-hub
returns-clause-hub c = leads c

pub returns-clause-stays : goal.returns-clause-stays
returns-clause-stays c = record {
  others = λ d apart. ap (part d) (leads c) ∙ others-stay c.args.self.now c.args.customer (new_part c) d apart;
  lines = λ d. ap (λ (ps : List Part). length (part d ps).customer.lines) (leads c)
      ∙ lines-stay c.args.self.now c.args.customer (new_part c) (known c) refl d;
  err = search rules;
}

pub returns-clause-known : goal.returns-clause-known
returns-clause-known c = known c

pub returns-clause-unknown : goal.returns-clause-unknown
returns-clause-unknown c = λ nowhere. absurd (nowhere (known c))

pub returns-clause-checked : goal.returns-clause-checked
returns-clause-checked c = checked c

pub returns-clause-refused : goal.returns-clause-refused
returns-clause-refused c = λ here cause told. let both : Ok tt ≡ Err cause = sym (checked c) ∙ told in absurd (cc both)
