-- The routes' nodes differ; and the tables with them are accepted.
use Rattle.std.proofs.Common.{◌≡◌, ◌<◌, List, length, slice_set, Ok, refl, sym, ap, subst, ◌∙◌}
use Rattle.njh_table.specs.Accepted.{IsAccepted}
use Rattle.njh_table.specs.Entries.{RouteEntry}
use Rattle.njh_table.specs.NewRoutes.{new_routes_of, entries_of_routes, routes_checked, with_routes}
use Rattle.njh_table.specs.TableFile.{NamedCustomer, TableFile, customer_at, entry_of, owners_from}
use Rattle.njh_table.proofs.NewRouteLaws.{checked-distinct, still_accepted, checked-given}
use Rattle.njh_table.proofs.Replaced.{same_owners}
use Rattle.njh_table.proofs.tables.Tables.set_routes.Goals.{After-give_routes}
use Rattle.njh_table.proofs.tables.Tables.set_routes.Goals as goal

pub replaced_by-requires : goal.replaced_by-requires
replaced_by-requires c = checked-distinct c.args.self.now c.args.customer c.args.routes.now c.requires.checked

-- the tables before the call
abbrev before : (c : After-give_routes) → TableFile
before c = record { capacity = c.self.inside.capacity; customers = c.self.inside.customers.items }

checked : (c : After-give_routes) → routes_checked (entry_of (customer_at (before c) c.args.customer))
    (new_routes_of c.args.customer c.args.routes.now) ≡ Ok tt
checked c =
    subst (λ t. routes_checked (entry_of (customer_at t c.args.customer))
    (new_routes_of c.args.customer c.args.routes.now) ≡ Ok tt)
    (sym c.self.view_is) c.requires.checked

abbrev with_new : (c : After-give_routes) → NamedCustomer
with_new c = record (customer_at (before c) c.args.customer)
    { routes = entries_of_routes (new_routes_of c.args.customer c.args.routes.now) }

now_are : (c : After-give_routes) → c.give_routes.new.customers.items ≡ slice_set (before c).customers c.args.customer
    (with_new c)
now_are c =
    c.give_routes.ensures
    ∙ ap (λ (rs : List RouteEntry). slice_set (before c).customers c.args.customer
    (record (customer_at (before c) c.args.customer) { routes = rs }))
    (c.in_ok-new.ensures.routes ∙ sym (checked-given (before c) c.args.customer c.args.routes.now (checked c)).0)

pub invariant_of-self : goal.invariant_of-self
invariant_of-self c =
    let t = before c in
    let n = c.args.customer in
    let there : n < length t.customers = subst (λ (t : TableFile). n < length t.customers) (sym c.self.view_is)
    c.requires.known in (
      subst (λ customers. IsAccepted (record t { customers = customers })) (sym (now_are c))
          (still_accepted t n c.args.routes.now c.self.invariant.0 there (checked c)),
      c.self.invariant.1 ∙ sym (ap (owners_from 0) (now_are c) ∙ same_owners 0 t.customers n (with_new c) refl),
    )

pub returns-clause-routes : goal.returns-clause-routes
returns-clause-routes c =
    ap (λ customers. record (before c) { customers = customers }) (now_are c)
    ∙ ap (with_routes c.args.customer (new_routes_of c.args.customer c.args.routes.now)) c.self.view_is
