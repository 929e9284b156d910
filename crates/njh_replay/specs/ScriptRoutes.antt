-- The line of a script that gives a customer routes: `ROUTES`, the customer's name, and a pair for each route.
use Rattle.std.specs.Prelude.{◌≡◌, ℕ, ◌<◌, ◌==◌, Bool, length, Ok, List, [], ◌∷◌, if◌then◌else◌, Option, Some, None}
use Rattle.std.specs.Prelude.{option_and_then, is_ok, position, bytes_eq}
use Rattle.std.specs.List.{slice_split}
use Rattle.std.specs.Option.{option_map}
use Rattle.std.specs.Result.{result_ok}
use Rattle.njh_ebcdic.specs.Reading.{name_of_text}
use Rattle.njh_table.specs.declared.LineId.{LineId}
use Rattle.njh_table.specs.declared.new_routes.GivenRoute.{GivenRoute}
use Rattle.njh_table.specs.NewRoutes.{new_routes_of, routes_checked}
use Rattle.njh_table.specs.TableFile.{TableFile, customer_at, entry_of, line_named, HasLine}
use Rattle.njh_hub.specs.declared.event.Event.{Event}
use Rattle.njh_hub.specs.declared.event.Event.TheVariants.{Bytes, Tick, Garbled, Lost, Routes, Order}

-- the number of the customer that a word names
abbrev pub customer_named : TableFile → List ℕ → Option ℕ
customer_named tables word =
    option_and_then (λ name. position (λ c. bytes_eq name c.name) tables.customers) (result_ok (name_of_text word))

-- what a word's colons part
abbrev pub parts_of_pair : List ℕ → List (List ℕ)
parts_of_pair word = slice_split (λ b. b == 58) word

-- the second line of a route by its name, whoever's it is; none if no name is given
abbrev pub second_by : TableFile → Option (List ℕ) → Option (Option LineId)
second_by tables None = Some None
second_by tables (Some name) = option_map (λ l. Some l) (line_named tables name)

-- the route of a node, the name of a line, and that of a second one if it has one, whoever's lines these are
abbrev pub route_by : TableFile → List ℕ → List ℕ → Option (List ℕ) → Option GivenRoute
route_by tables node line second =
    option_and_then
    (λ n. option_and_then (λ l. option_map (λ s. record { node = n; line = l; second = s }) (second_by tables second))
    (line_named tables line))
    (result_ok (name_of_text node))

-- the route of a node and of one part or two: the names of its lines
abbrev pub route_by_lines : TableFile → List ℕ → List (List ℕ) → Option GivenRoute
route_by_lines tables node (line ∷ []) = route_by tables node line None
route_by_lines tables node (line ∷ second ∷ []) = route_by tables node line (Some second)
route_by_lines tables node lines = None

-- the route of a pair: a node, a colon and the name of a line, and another colon and the name of a second line if it
-- has one
abbrev pub route_of_parts : TableFile → List (List ℕ) → Option GivenRoute
route_of_parts tables [] = None
route_of_parts tables (node ∷ lines) = route_by_lines tables node lines

abbrev pub route_of_pair : TableFile → List ℕ → Option GivenRoute
route_of_pair tables pair = route_of_parts tables (parts_of_pair pair)

-- the routes of pairs, if each is one
abbrev pub routes_of_pairs : TableFile → List (List ℕ) → Option (List GivenRoute)
routes_of_pairs tables [] = Some []
routes_of_pairs tables (pair ∷ pairs) = option_and_then
    (λ route. option_map (λ routes. route ∷ routes) (routes_of_pairs tables pairs)) (route_of_pair tables pair)

-- whether a customer may have routes, by its own entry
abbrev pub may_have : TableFile → ℕ → List GivenRoute → Bool
may_have tables c routes = is_ok (routes_checked (entry_of (customer_at tables c)) (new_routes_of c routes))

-- the event that a customer is given routes, if it may have them
abbrev pub routes_for : TableFile → ℕ → List GivenRoute → Option Event
routes_for tables c routes = if may_have tables c routes then Some (Routes c routes) else None

-- the event of the words after `ROUTES`: a customer's name, and pairs
abbrev pub event_of_routes : TableFile → List (List ℕ) → Option Event
event_of_routes tables [] = None
event_of_routes tables (name ∷ pairs) = option_and_then
    (λ c. option_and_then (routes_for tables c) (routes_of_pairs tables pairs)) (customer_named tables name)

-- An event names what the tables have: its line, or its customer, which may have these routes. Any customer may have an
-- order.
abbrev pub IsNamedIn : TableFile → Event → Type 0
IsNamedIn tables (Bytes id piece) = HasLine tables id
IsNamedIn tables (Tick id) = HasLine tables id
IsNamedIn tables (Garbled id) = HasLine tables id
IsNamedIn tables (Lost id) = HasLine tables id
IsNamedIn tables (Routes c routes) = (c < length tables.customers)
    × (routes_checked (entry_of (customer_at tables c)) (new_routes_of c routes) ≡ Ok tt)
IsNamedIn tables (Order c order) = c < length tables.customers
