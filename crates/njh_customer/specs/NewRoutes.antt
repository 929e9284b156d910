-- A customer that is given new routes.
use Rattle.std.specs.Prelude.{◌≡◌, ℕ, true, false, List, Ok, Err}
use Rattle.njh_header.specs.FileHeaders.{destination_of}
use Rattle.njh_spool.specs.CustomerSpool.{WholeFile}
use Rattle.njh_stream.specs.Holding.{destination_unrouted, unrouted_held}
use Rattle.njh_stream.specs.Sending.{goes_by}
use Rattle.njh_table.specs.Entries.{CustomerEntry, RouteEntry}
use Rattle.njh_table.specs.Keys.{Walked}
use Rattle.njh_table.specs.NewRoutes.{NewRoute, routes_checked, entries_of_routes}
use Rattle.njh_customer.specs.Customer.{Customer}
use Rattle.njh_customer.specs.Part.{Part}

abbrev pub entry_with : List RouteEntry → CustomerEntry → CustomerEntry
entry_with routes entry = record entry { routes = routes }

-- Its files that are Ready or Refused and whose node has no route now are Held. All else stays: the files that are
-- being sent, the partial files, which were judged by the routes that there were, and what waits on its lines.
abbrev pub customer_with_routes : List RouteEntry → Customer → Customer
customer_with_routes routes c =
    let entry = entry_with routes c.entry in
    record c { entry = entry; spool = unrouted_held entry c.spool }

-- and of no line what has come of its next frame
abbrev pub part_after_routes : List RouteEntry → Part → Part
part_after_routes routes p = record p { customer = customer_with_routes routes p.customer }

-- Routes that are given are the customer's from then on, if there is no fault in them; else nothing changes.
abbrev pub taken_where : Walked (Unit {0}) → List NewRoute → Part → Part
taken_where (Ok faultless) routes p = part_after_routes (entries_of_routes routes) p
taken_where (Err fault) routes p = p

abbrev pub routes_given : List NewRoute → Part → Part
routes_given routes p = taken_where (routes_checked p.customer.entry routes) routes p

-- ---- what is said of it

-- A file whose node has no route goes by no line, so none asks for it, whatever state it is in.
abbrev pub UnroutedFilesStay : Type 0
UnroutedFilesStay =
    (entry : CustomerEntry) (l : ℕ) (f : WholeFile)
    → destination_unrouted entry (destination_of f.kind f.records) ≡ true
    → goes_by entry l f ≡ false
