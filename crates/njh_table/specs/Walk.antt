-- The walk over a table file: the tables that it gives, or its first fault with its place. Each element of a list is
-- walked after those before it: a list past its limit is refused before the element's keys, and keys that aren't named
-- here are ignored.
use Rattle.std.specs.Prelude.{◌≡◌, ◌≢◌, ℕ, Bool, true, false, ◌||◌, List, [], ◌∷◌, ◌++◌, length, map, nat_le}
use Rattle.std.specs.Prelude.{nat_lt, sum_by, bytes_eq, Option, Some, None, ok_or, is_some, Result, Ok, Err}
use Rattle.std.specs.Prelude.{MatchResult}
use Rattle.std.specs.List.{list_any, position_from}
use Rattle.toml.specs.Data.{Data, Items, no_items, item, Members, as_str, as_array}
use Rattle.toml.specs.Parse.{parse_document}
use Rattle.njh_table.specs.declared.fault.TableFault.TheVariants.{BadToml, MissingKey, BadValue, DoubleLine, DoubleNode}
use Rattle.njh_table.specs.declared.fault.TableFault.TheVariants.{UnknownLine, QuotaOver, TooMany, Memory}
use Rattle.njh_table.specs.declared.Protocol.TheVariants.{Bisync}
use Rattle.njh_table.specs.declared.places.Key.TheVariants as named
use Rattle.njh_table.specs.declared.places.Part.{Part}
use Rattle.njh_table.specs.declared.places.Part.TheVariants as parts
use Rattle.njh_table.specs.declared.places.PlacedFault.{PlacedFault}
use Rattle.njh_table.specs.Limits.{max_customers, max_lines, max_routes, max_capacity, max_quota}
use Rattle.njh_table.specs.Limits.{max_files, min_block, max_block, max_streams, max_port}
use Rattle.njh_table.specs.Entries.{RouteEntry, lines_to}
use Rattle.njh_table.specs.Keys.{Walked, Placed, ◌>>=◌, ◌>>◌, fault_where, without_place, keys_in, at_key, at_key_or}
use Rattle.njh_table.specs.Keys.{number, node_name, line_name, role, password, peer, from, may_be_tcp, protocol}
use Rattle.njh_table.specs.Keys.{second_line}
use Rattle.njh_table.specs.Places.{at_part, at_value}
use Rattle.njh_table.specs.TableFile.{NamedLine, NamedCustomer, TableFile, line_names}

-- ---- lines

-- the line of a name, by its other keys; the part is the line's
unfoldable pub walked_line : Part → List ℕ → Members → Placed NamedLine
walked_line part name keys = do
  node ← at_key node_name part named.Node keys
  role ← at_key role part named.Role keys
  block ← at_key (number min_block max_block) part named.Block keys
  streams ← at_key (number 1 max_streams) part named.Streams keys
  password ← at_key_or password [] part named.Password keys
  port ← at_key_or (number 0 max_port) 0 part named.Port keys
  peer ← at_key_or (peer port) None part named.Connect keys
  from ← at_key_or (from port) [] part named.From keys
  protocol ← at_key_or (protocol (may_be_tcp role port peer)) Bisync part named.Protocol keys
  Ok (record {
    name = name;
    port = port;
    peer = peer;
    from = from;
    protocol = protocol;
    up = false;
    entry = record { node = node; role = role; block = block; streams = streams; password = password };
  })

-- the next line, after the lines of the hub that have these names: no two lines of the hub have one name
unfoldable pub next_line : Part → List (List ℕ) → Data → Placed NamedLine
next_line part taken value = do
  fault_where (nat_le max_lines (length taken)) (at_part part TooMany)
  keys ← keys_in part value
  name ← at_key line_name part named.Name keys
  fault_where (list_any (bytes_eq name) taken) (at_value part named.Name DoubleLine)
  walked_line part name keys

-- the lines of the customer of a number, after those done, where those of earlier customers have the names taken
abbrev pub lines_onto : ℕ → List (List ℕ) → List NamedLine → Items → Placed (List NamedLine)
lines_onto customer taken done no_items = Ok done
lines_onto customer taken done (item value more) =
    next_line (parts.Line customer (length done)) (taken ++ map (λ l. l.name) done) value
    >>= (λ line. lines_onto customer taken (done ++ line ∷ []) more)

-- the number of the line of a name among a customer's lines
abbrev pub line_number : List NamedLine → List ℕ → Option ℕ
line_number lines name = position_from (λ l. bytes_eq l.name name) 0 lines

-- ---- routes

-- whether the customer's hub and its routes so far say where a node goes
abbrev pub is_routed : List ℕ → List RouteEntry → List ℕ → Bool
is_routed hub routes node = bytes_eq hub node || is_some (lines_to routes node)

-- the number of the line of a name, where there is a name
abbrev pub number_of_second : Part → (List ℕ → Option ℕ) → Option (List ℕ) → Placed (Option ℕ)
number_of_second part line_number None = Ok None
number_of_second part line_number (Some name) = do
  number ← ok_or (line_number name) (at_value part named.Second UnknownLine)
  Ok (Some number)

-- a customer's route for a node by the line of a name and perhaps a second, with its hub's name and what gives the
-- number of a line of its own by name: the hub's own name has no route, and another node one at most
unfoldable pub route_by : Part → List ℕ → (List ℕ → Option ℕ) → List RouteEntry → List ℕ → List ℕ → Option (List ℕ)
    → Placed RouteEntry
route_by part hub line_number done node line second = do
  fault_where (is_routed hub done node) (at_value part named.Node DoubleNode)
  number ← ok_or (line_number line) (at_value part named.Line UnknownLine)
  second_number ← number_of_second part line_number second
  Ok (record { node = node; line = number; second = second_number })

-- the next route of a customer, after those done
unfoldable pub next_route : Part → List ℕ → (List ℕ → Option ℕ) → List RouteEntry → Data → Placed RouteEntry
next_route part hub line_number done value = do
  fault_where (nat_le max_routes (length done)) (at_part part TooMany)
  keys ← keys_in part value
  node ← at_key node_name part named.Node keys
  line ← at_key as_str part named.Line keys
  second ← at_key_or (second_line line) None part named.Second keys
  route_by part hub line_number done node line second

-- the routes of the customer of a number, after those done
abbrev pub routes_onto : ℕ → List ℕ → (List ℕ → Option ℕ) → List RouteEntry → Items → Placed (List RouteEntry)
routes_onto customer hub line_number done no_items = Ok done
routes_onto customer hub line_number done (item value more) =
    next_route (parts.Route customer (length done)) hub line_number done value
    >>= (λ route. routes_onto customer hub line_number (done ++ route ∷ []) more)

-- ---- customers

-- the keys of a customer, its lists aside
pub record CustomerKeys : Type 0 where
  pub name : List ℕ
  pub hub : List ℕ
  pub quota : ℕ
  pub files : ℕ

-- no two customers have one name
unfoldable pub customer_keys : Part → List NamedCustomer → Members → Placed CustomerKeys
customer_keys part done keys = do
  name ← at_key node_name part named.Name keys
  fault_where (list_any (λ c. bytes_eq c.name name) done) (at_value part named.Name BadValue)
  hub ← at_key node_name part named.Hub keys
  quota ← at_key (number 1 max_quota) part named.Quota keys
  files ← at_key (number 1 max_files) part named.Files keys
  Ok (record { name = name; hub = hub; quota = quota; files = files })

-- the next customer, after those done: both its lists are lists before an element of them is looked at
unfoldable pub next_customer : List NamedCustomer → Data → Placed NamedCustomer
next_customer done value = let part = parts.Customer (length done) in do
  fault_where (nat_le max_customers (length done)) (at_part part TooMany)
  keys ← keys_in part value
  own ← customer_keys part done keys
  line_values ← at_key_or as_array no_items part named.Line keys
  route_values ← at_key_or as_array no_items part named.Route keys
  lines ← lines_onto (length done) (line_names done) [] line_values
  routes ← routes_onto (length done) own.hub (line_number lines) [] route_values
  Ok (record { name = own.name; hub = own.hub; quota = own.quota; files = own.files; lines = lines; routes = routes })

-- the customers, after those done
abbrev pub customers_onto : List NamedCustomer → Items → Placed (List NamedCustomer)
customers_onto done no_items = Ok done
customers_onto done (item value more) =
    next_customer done value >>= (λ customer. customers_onto (done ++ customer ∷ []) more)

-- ---- the file

abbrev pub is_empty : Items → Bool
is_empty no_items = true
is_empty (item value more) = false

-- the tables that a document gives: it has a customer, and the quotas add to at most the capacity
unfoldable pub walk_in : Members → Placed TableFile
walk_in keys = do
  capacity ← at_key (number 1 max_capacity) parts.File named.Capacity keys
  customer_values ← at_key as_array parts.File named.Customer keys
  fault_where (is_empty customer_values) (at_value parts.File named.Customer MissingKey)
  customers ← customers_onto [] customer_values
  fault_where (nat_lt capacity (sum_by (λ c. c.quota) customers)) (at_value parts.File named.Capacity QuotaOver)
  Ok (record { capacity = capacity; customers = customers })

-- the tables that a text gives, or its first fault with its place
abbrev pub walk_of : List ℕ → Placed TableFile
walk_of text = ok_or (parse_document text) (at_part parts.File BadToml) >>= walk_in

-- the same, and the fault alone
abbrev pub tables_in : Members → Walked TableFile
tables_in keys = without_place (walk_in keys)

abbrev pub tables_of : List ℕ → Walked TableFile
tables_of text = without_place (walk_of text)

-- what a function returned, seen by view, is what the walk gives, unless memory was refused
abbrev pub Walks : {A B : Type 0} → (A → B) → Result A PlacedFault → Placed B → Type 0
Walks view result walked =
    MatchResult result (λ x. walked ≡ Ok (view x)) (λ placed. placed.fault ≢ Memory → walked ≡ Err placed)
