-- New routes for a customer in place of its own: the first fault in them, or the entry with them.
use Rattle.std.specs.Prelude.{ℕ, Bool, true, false, ◌==◌, ◌&&◌, not, nat_lt, cond, bytes_eq, List, [], ◌∷◌, ◌++◌}
use Rattle.std.specs.Prelude.{length, map, slice_set, Option, Some, None, option_map, Ok}
use Rattle.std.specs.List.{list_any}
use Rattle.njh_table.specs.declared.LineId.{LineId}
use Rattle.njh_table.specs.declared.fault.TableFault.TheVariants.{BadValue, DoubleNode, UnknownLine, TooMany}
use Rattle.njh_table.specs.Limits.{max_routes}
use Rattle.njh_table.specs.declared.new_routes.GivenRoute.{GivenRoute}
use Rattle.njh_table.specs.declared.routes.RouteLines.{RouteLines}
use Rattle.njh_table.specs.Entries.{RouteEntry, CustomerEntry}
use Rattle.njh_table.specs.Keys.{Walked, ◌>>◌, fault_where}
use Rattle.njh_table.specs.TableFile.{TableFile, customer_at}

-- The second line of a new route as its customer sees it.
pub data Second : Type 0 where
  NoSecond : Second  -- the route has none
  Again : Second  -- the line that the route has already
  Own : ℕ → Second  -- the customer's line of this number
  Foreign : Second  -- a line that isn't the customer's

-- A new route as its customer sees it: a node, the line by its number within the customer, or none where that isn't the
-- customer's, and the second line.
pub record NewRoute : Type 0 where
  pub node : List ℕ
  pub line : Option ℕ
  pub second : Second

abbrev pub own_number : ℕ → LineId → Option ℕ
own_number c id = cond (id.customer == c) (Some id.number) None

-- a second line that is the route's line
abbrev pub repeats : LineId → Option LineId → Bool
repeats id None = false
repeats id (Some second) = (id.customer == second.customer) && (id.number == second.number)

abbrev pub own_or_foreign : Option ℕ → Second
own_or_foreign None = Foreign
own_or_foreign (Some line) = Own line

abbrev pub other_second : ℕ → Option LineId → Second
other_second c None = NoSecond
other_second c (Some second) = own_or_foreign (own_number c second)

abbrev pub own_second : ℕ → LineId → Option LineId → Second
own_second c id second = cond (repeats id second) Again (other_second c second)

-- the routes that the customer of a number is given, as it sees them
abbrev pub own_route : ℕ → GivenRoute → NewRoute
own_route c r = record { node = r.node; line = own_number c r.line; second = own_second c r.line r.second }

abbrev pub new_routes_of : ℕ → List GivenRoute → List NewRoute
new_routes_of c routes = map (own_route c) routes

-- ---- the first fault

-- a line of a customer that has so many
abbrev pub is_own : ℕ → Option ℕ → Bool
is_own lines None = false
is_own lines (Some line) = nat_lt line lines

abbrev pub is_again : Second → Bool
is_again NoSecond = false
is_again Again = true
is_again (Own line) = false
is_again Foreign = false

-- no second line, or one that the customer has
abbrev pub may_be_second : ℕ → Second → Bool
may_be_second lines NoSecond = true
may_be_second lines Again = true
may_be_second lines (Own line) = nat_lt line lines
may_be_second lines Foreign = false

-- the next of the routes, where these nodes can't have another
unfoldable pub route_checked : ℕ → List (List ℕ) → NewRoute → Walked (Unit {0})
route_checked lines taken r = do
  fault_where (is_again r.second) BadValue
  fault_where (list_any (bytes_eq r.node) taken) DoubleNode
  fault_where (not (is_own lines r.line)) UnknownLine
  fault_where (not (may_be_second lines r.second)) UnknownLine

-- routes one after the other, from the left: each node has one at most
abbrev pub checked_from : ℕ → List (List ℕ) → List NewRoute → Walked (Unit {0})
checked_from lines taken [] = Ok tt
checked_from lines taken (r ∷ routes) = route_checked lines taken r >> checked_from lines (taken ++ r.node ∷ []) routes

-- all routes that a customer is to have: the hub's own name can have none
abbrev pub routes_checked : CustomerEntry → List NewRoute → Walked (Unit {0})
routes_checked entry routes = do
  fault_where (nat_lt max_routes (length routes)) TooMany
  checked_from (length entry.lines) (entry.hub ∷ []) routes

-- ---- the entry with them

-- the lines of a route by their numbers, whoever's they are
abbrev pub given_lines : GivenRoute → RouteLines
given_lines r = record { line = r.line.number; second = option_map (λ l. l.number) r.second }

abbrev pub number_or : Option ℕ → ℕ
number_or None = 0
number_or (Some line) = line

abbrev pub taken_second : Second → Option ℕ
taken_second NoSecond = None
taken_second Again = None
taken_second (Own line) = Some line
taken_second Foreign = None

abbrev pub taken_route : NewRoute → RouteEntry
taken_route r = record { node = r.node; line = number_or r.line; second = taken_second r.second }

abbrev pub entries_of_routes : List NewRoute → List RouteEntry
entries_of_routes routes = map taken_route routes

-- the customer of a number has these routes alone, and nothing else is changed
abbrev pub with_routes : ℕ → List NewRoute → TableFile → TableFile
with_routes c routes t =
    record t { customers = slice_set t.customers c (record (customer_at t c) { routes = entries_of_routes routes }) }
