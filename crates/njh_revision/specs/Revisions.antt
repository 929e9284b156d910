-- What tables may change while a hub runs: the routes of each customer whose entry stays in all else.
use Rattle.std.specs.Prelude.{◌≡◌, ℕ, false, List, [], map, Option, Some, None, option_map}
use Rattle.njh_table.specs.declared.new_routes.GivenRoute.{GivenRoute}
use Rattle.njh_table.specs.Entries.{RouteEntry}
use Rattle.njh_table.specs.TableFile.{NamedLine, NamedCustomer, TableFile, customer_at}

-- ---- what stays

-- a line but for its mark as up, which no table file gives, and for from where its peer may connect, which may change
abbrev pub what_stays : NamedLine → NamedLine
what_stays l = record l { from = []; up = false }

-- a customer but for its routes and for from where the peers of its lines may connect
abbrev pub without_routes : NamedCustomer → NamedCustomer
without_routes c = record c { lines = map what_stays c.lines; routes = [] }

-- the entry of the customer of a number is the same in both, but for its routes and these
abbrev pub AgreesAt : ℕ → (old new : TableFile) → Type 0
AgreesAt c old new = without_routes (customer_at new c) ≡ without_routes (customer_at old c)

-- its routes are the same in both
abbrev pub HasRoutesOf : ℕ → (old new : TableFile) → Type 0
HasRoutesOf c old new = (customer_at new c).routes ≡ (customer_at old c).routes

-- ---- what a customer is given

-- a route of the customer of a number as the hub is given it: by this customer's own lines
abbrev pub given_route : ℕ → RouteEntry → GivenRoute
given_route c r = record {
  node = r.node;
  line = record { customer = c; number = r.line };
  second = option_map (λ line. record { customer = c; number = line }) r.second;
}

abbrev pub given_routes : ℕ → List RouteEntry → List GivenRoute
given_routes c routes = map (given_route c) routes

-- ---- what tables a hub has

-- those that it was opened with, and those by which its customers are given routes: the ones that were taken last
pub record KnownTables : Type 0 where
  pub opened : TableFile
  pub last : TableFile

abbrev pub last_of : TableFile → Option TableFile → TableFile
last_of opened None = opened
last_of opened (Some taken) = taken

abbrev pub opened_tables : Option KnownTables → Option TableFile
opened_tables known = option_map (λ tables. tables.opened) known

-- what it was opened with stays
abbrev pub AreKept : (old new : Option KnownTables) → Type 0
AreKept old new = opened_tables new ≡ opened_tables old

-- A customer is given all its routes of the tables that were taken last, in their order. All else of its entry there is
-- what the hub was opened with, whatever differs of other customers.
pub record IsGiven (customer : ℕ) (routes : List GivenRoute) (known : KnownTables) : Type 0 where
  pub routes_are : routes ≡ given_routes customer (customer_at known.last customer).routes
  pub agrees : AgreesAt customer known.opened known.last
