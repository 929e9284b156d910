-- Whether two customers have the same entry, by all that can be read of it and wherever each stands in its file.
use Rattle.std.specs.Prelude.{◌≡◌}
use Rattle.std.specs.List.{AllZip}
use Rattle.njh_table.specs.Entries.{RouteEntry}
use Rattle.njh_table.specs.TableFile.{NamedLine, NamedCustomer}

pub record SameLine (l m : NamedLine) : Type 0 where
  pub name : l.name ≡ m.name
  pub node : l.entry.node ≡ m.entry.node
  pub role : l.entry.role ≡ m.entry.role
  pub block : l.entry.block ≡ m.entry.block
  pub streams : l.entry.streams ≡ m.entry.streams
  pub password : l.entry.password ≡ m.entry.password
  pub port : l.port ≡ m.port
  pub peer : l.peer ≡ m.peer
  pub from : l.from ≡ m.from
  pub protocol : l.protocol ≡ m.protocol
  pub up : l.up ≡ m.up

pub record SameRoute (r s : RouteEntry) : Type 0 where
  pub node : r.node ≡ s.node
  pub line : r.line ≡ s.line
  pub second : r.second ≡ s.second

-- lines and routes one by one, in their order
pub record SameEntry (c d : NamedCustomer) : Type 0 where
  pub name : c.name ≡ d.name
  pub hub : c.hub ≡ d.hub
  pub quota : c.quota ≡ d.quota
  pub files : c.files ≡ d.files
  pub lines : AllZip SameLine c.lines d.lines
  pub routes : AllZip SameRoute c.routes d.routes
