-- The parts of a hub whose tables have new routes for one customer.
use Rattle.std.proofs.Common.{◌≡◌, ℕ, ◌<◌, List, length, set, slice_set, ap, sym, subst, ◌∙◌}
use Rattle.std.proofs.lemmas.List.{get_or-set_same}
use Rattle.njh_spool.specs.CustomerSpool.{CustomerSpool}
use Rattle.njh_spool.specs.Spools as spools
use Rattle.njh_table.specs.Entries.{RouteEntry}
use Rattle.njh_table.specs.TableFile.{TableFile, customer_at, entry_of, no_customer}
use Rattle.njh_customer.specs.Customer.{IsMarked}
use Rattle.njh_customer.specs.code.Coherence.{IsCoherent}
use Rattle.njh_customer.specs.NewRoutes.{part_after_routes}
use Rattle.njh_customer.specs.Part.{Part, Lines, part_with}
use Rattle.njh_customer.proofs.RoutesMoves.{coherent_given}
use Rattle.njh_hub.specs.WholeHub.{part}
use Rattle.njh_hub.specs.Parts.{lines_at, no_lines, part_held, parts_of}
use Rattle.njh_hub.specs.code.HubInvariant.{IsHub}
use Rattle.njh_hub.proofs.PartsLaws.{DifferAt, Moves, differ-nowhere, differ-set, part-there, parts-moved}

-- the tables with other routes for a customer
abbrev pub table_with : ℕ → List RouteEntry → TableFile → TableFile
table_with c routes table = record table {
  customers = slice_set table.customers c
      (record (customer_at table c) { routes = routes });
}

-- The tables have other routes for a customer, and its files have become others.
pub record SetsRoutes (table : TableFile) (files : List CustomerSpool) (lines : List Lines) (c : ℕ)
    (routes : List RouteEntry)
    (new : TableFile) (after : List CustomerSpool) : Type 0 where
  pub hub : IsHub table files lines
  pub there : c < length table.customers
  pub tables : new ≡ table_with c routes table
  pub others : after ≡ slice_set files c (spools.spool_at c after)
  pub is : part_with (entry_of (customer_at new c)) (spools.spool_at c after) (lines_at c lines)
      ≡ part_after_routes (entry_of (customer_at new c)).routes
      (part_with (entry_of (customer_at new c)) (spools.spool_at c files) (lines_at c lines))

-- its part is another
pub held-new : {table : TableFile} {files : List CustomerSpool} {lines : List Lines} {c : ℕ} {routes : List RouteEntry}
    {new : TableFile}
    {after : List CustomerSpool} → SetsRoutes table files lines c routes new after
    → part_held new after lines c ≡ part_after_routes routes (part_held table files lines c)
held-new {table} {files} {lines} {c} {routes} {new} {after} r =
    let now = record (customer_at table c) { routes = routes } in
    let the_customer : customer_at new c ≡ now =
    ap (λ t. customer_at t c) r.tables ∙ get_or-set_same table.customers c now no_customer r.there in
    r.is ∙ ap (λ x. part_after_routes (entry_of x).routes
    (part_with (entry_of x) (spools.spool_at c files) (lines_at c lines))) the_customer

pub sets_routes : {table : TableFile} {files : List CustomerSpool} {lines : List Lines} {c : ℕ}
    {routes : List RouteEntry} {new : TableFile}
    {after : List CustomerSpool} → SetsRoutes table files lines c routes new after
    → Moves table files lines c new after lines
sets_routes {table} {files} {lines} {c} {routes} {new} {after} r =
    let now = record (customer_at table c) { routes = routes } in
    record {
      hub = r.hub;
      there = r.there;
      in_table = subst (λ (t : TableFile). DifferAt no_customer c table.customers t.customers) (sym r.tables)
          (differ-set no_customer c table.customers now);
      in_files = subst (λ (ss : List CustomerSpool). DifferAt spools.no_spool c files ss) (sym r.others)
          (differ-set spools.no_spool c files (spools.spool_at c after));
      in_lines = differ-nowhere no_lines c lines;
      coherent = subst (λ (p : Part). IsCoherent p.customer) (sym (held-new r))
          (coherent_given routes (part_held table files lines c).customer (r.hub.coherent c r.there));
      marked = subst (λ (p : Part). IsMarked p.customer) (sym (held-new r)) (r.hub.marked c r.there);
    }

pub parts-set_routes : {table : TableFile} {files : List CustomerSpool} {lines : List Lines} {c : ℕ}
    {routes : List RouteEntry}
    {new : TableFile} {after : List CustomerSpool} → SetsRoutes table files lines c routes new after
    → parts_of new after lines ≡ set (parts_of table files lines) c
    (part_after_routes routes (part c (parts_of table files lines)))
parts-set_routes {table} {files} {lines} {c} {routes} {new} {after} r =
    let old = parts_of table files lines in
    parts-moved (sets_routes r)
    ∙ ap (set old c) (held-new r ∙ ap (part_after_routes routes) (sym (part-there table files lines c r.there)))
