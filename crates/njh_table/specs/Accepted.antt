-- What holds of every table that is accepted: the limits, names that differ, and quotas that add to at most the
-- capacity.
use Rattle.std.specs.Prelude.{◌≡◌, ◌≢◌, ℕ, ◌<◌, ◌≤◌, List, ◌∷◌, length, map, sum_by, All, AllPairs, IfSome, IsSome}
use Rattle.std.specs.Prelude.{IsTrue}
use Rattle.std.specs.Net.Socket.{socket_port}
use Rattle.njh_table.specs.declared.Protocol.TheVariants.{Tcp}
use Rattle.njh_table.specs.declared.Role.TheVariants.{Call, Answer}
use Rattle.njh_table.specs.Limits.{max_customers, max_lines, max_routes, max_capacity, max_quota}
use Rattle.njh_table.specs.Limits.{max_files, max_ranges, min_block, max_block, max_streams, max_port}
use Rattle.njh_table.specs.Entries.{RouteEntry}
use Rattle.njh_table.specs.TableFile.{NamedLine, NamedCustomer, TableFile, line_names}
use Rattle.njh_table.specs.Keys.{is_line_name}
use Rattle.njh_table.specs.Ranges.{is_range}

abbrev pub IsBetween : ℕ → ℕ → ℕ → Type 0
IsBetween low high n = (low ≤ n) × (n ≤ high)

abbrev pub AreDistinct : List (List ℕ) → Type 0
AreDistinct names = AllPairs (λ a b. a ≢ b) names

pub record IsLine (l : NamedLine) : Type 0 where
  pub name : IsTrue (is_line_name l.name)
  pub block : IsBetween min_block max_block l.entry.block
  pub streams : IsBetween 1 max_streams l.entry.streams
  pub port : l.port ≤ max_port
  -- a line whose peer listens has no port of its own
  pub peer : IfSome l.peer (λ address. (l.port ≡ 0) × (socket_port address ≢ 0))
  -- a line that says from where its peer may connect has a port
  pub from : 0 < length l.from → l.port ≢ 0
  pub few : length l.from ≤ max_ranges
  pub ranges : All (λ range. IsTrue (is_range range)) l.from
  -- over TCP the end that connects makes contact
  pub answers : l.protocol ≡ Tcp → l.port ≢ 0 → l.entry.role ≡ Answer
  pub calls : l.protocol ≡ Tcp → IsSome l.peer → l.entry.role ≡ Call

-- a route of a customer with so many lines: its second line is another than its first
pub record IsRoute (lines : ℕ) (r : RouteEntry) : Type 0 where
  pub line : r.line < lines
  pub second : IfSome r.second (λ line. (line < lines) × (line ≢ r.line))

pub record IsCustomer (c : NamedCustomer) : Type 0 where
  pub quota : IsBetween 1 max_quota c.quota
  pub files : IsBetween 1 max_files c.files
  pub lines : All IsLine c.lines
  pub routes : length c.routes ≤ max_routes
  pub each_route : All (IsRoute (length c.lines)) c.routes
  -- a node has one route at most, and the hub's own name has none
  pub nodes : AreDistinct (c.hub ∷ map (λ r. r.node) c.routes)

pub record IsAccepted (t : TableFile) : Type 0 where
  pub capacity : IsBetween 1 max_capacity t.capacity
  pub customers : IsBetween 1 max_customers (length t.customers)
  pub names : AreDistinct (map (λ c. c.name) t.customers)
  pub each : All IsCustomer t.customers
  pub lines : length (line_names t.customers) ≤ max_lines
  pub line_names : AreDistinct (line_names t.customers)
  pub quotas : sum_by (λ c. c.quota) t.customers ≤ t.capacity
