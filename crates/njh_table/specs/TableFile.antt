-- What a table file holds: the hub's capacity, and its customers with their lines and routes.
use Rattle.std.specs.Prelude.{ℕ, Bool, false, ◌+◌, ◌<◌, ◌==◌, if◌then◌else◌, List, [], ◌∷◌, ◌++◌, length, map}
use Rattle.std.specs.Prelude.{slice_index_or, bytes_eq, Option, Some, None, option_and_then}
use Rattle.std.specs.List.{flat_map}
use Rattle.std.specs.Map.{lookup}
use Rattle.std.specs.declared.net.socket_addr.SocketAddr.{SocketAddr}
use Rattle.njh_table.specs.declared.address_range.AddressRange.{AddressRange}
use Rattle.njh_table.specs.declared.LineId.{LineId}
use Rattle.njh_table.specs.declared.Protocol.{Protocol}
use Rattle.njh_table.specs.declared.Protocol.TheVariants.{Bisync}
use Rattle.njh_table.specs.declared.Role.TheVariants.{Answer}
use Rattle.njh_table.specs.declared.routes.RouteLines.{RouteLines}
use Rattle.njh_table.specs.Entries.{LineEntry, RouteEntry, CustomerEntry}

-- a line: its name on the hub (text), its port, where its peer listens if the hub is to connect to it, the ranges of
-- addresses from which its peer may connect (none where it may from anywhere), how its bytes are written on its
-- connections, its mark as up, and what its customer's entry says of it
pub record NamedLine : Type 0 where
  pub name : List ℕ
  pub port : ℕ
  pub peer : Option SocketAddr
  pub from : List AddressRange
  pub protocol : Protocol
  pub up : Bool
  pub entry : LineEntry

-- a customer: its name, and what its entry says
pub record NamedCustomer : Type 0 where
  pub name : List ℕ
  pub hub : List ℕ
  pub quota : ℕ
  pub files : ℕ
  pub lines : List NamedLine
  pub routes : List RouteEntry

pub record TableFile : Type 0 where
  pub capacity : ℕ
  pub customers : List NamedCustomer

-- the entry by which a customer's files and messages go
abbrev pub entry_of : NamedCustomer → CustomerEntry
entry_of c = record {
  hub = c.hub;
  quota = c.quota;
  files = c.files;
  lines = map (λ l. l.entry) c.lines;
  up = map (λ l. l.up) c.lines;
  routes = c.routes;
}

-- a password, where there is one, or no bytes
abbrev pub password_bytes : Option (List ℕ) → List ℕ
password_bytes None = []
password_bytes (Some name) = name

-- the route for a node by these lines
abbrev pub route_entry : List ℕ × RouteLines → RouteEntry
route_entry r = record { node = r.0; line = r.1.line; second = r.1.second }

-- ---- the customers and lines of a table by their numbers

-- where there is no such customer, one without lines
abbrev pub no_customer : NamedCustomer
no_customer = record { name = []; hub = []; quota = 0; files = 0; lines = []; routes = [] }

abbrev pub no_line : NamedLine
no_line = record {
  name = [];
  port = 0;
  peer = None;
  from = [];
  protocol = Bisync;
  up = false;
  entry = record { node = []; role = Answer; block = 0; streams = 0; password = [] };
}

abbrev pub customer_at : TableFile → ℕ → NamedCustomer
customer_at t c = slice_index_or t.customers c no_customer

abbrev pub HasLine : TableFile → LineId → Type 0
HasLine t id = id.number < length (customer_at t id.customer).lines

abbrev pub table_line : TableFile → LineId → NamedLine
table_line t id = slice_index_or (customer_at t id.customer).lines id.number no_line

-- ---- the lines of the hub by their names

abbrev pub line_names : List NamedCustomer → List (List ℕ)
line_names customers = flat_map (λ c. map (λ l. l.name) c.lines) customers

abbrev pub Owners : Type 0
Owners = List (List ℕ × LineId)

abbrev pub names_in : Owners → List (List ℕ)
names_in owners = map (λ o. o.0) owners

-- the lines of a customer, from the one of a number on
abbrev pub line_owners : ℕ → ℕ → List NamedLine → Owners
line_owners customer line [] = []
line_owners customer line (l ∷ lines) =
    (l.name, record { customer = customer; number = line }) ∷ line_owners customer (line + 1) lines

-- the number of the line of a name, where it is of this customer
abbrev pub own_line : Owners → ℕ → List ℕ → Option ℕ
own_line owners customer name =
    option_and_then (λ o. if o.customer == customer then Some o.number else None) (lookup (bytes_eq name) owners)

-- the lines of all customers, from the one of a number on
abbrev pub owners_from : ℕ → List NamedCustomer → Owners
owners_from customer [] = []
owners_from customer (c ∷ customers) = line_owners customer 0 c.lines ++ owners_from (customer + 1) customers

-- the line of a name
abbrev pub line_named : TableFile → List ℕ → Option LineId
line_named t name = lookup (bytes_eq name) (owners_from 0 t.customers)
