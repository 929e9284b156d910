-- The place of a fault in a table file: the part of the file, and the key.
use Rattle.std.specs.Prelude.{ℕ, List, codes, Some, None}
use Rattle.njh_table.specs.declared.fault.TableFault.{TableFault}
use Rattle.njh_table.specs.declared.places.Part.{Part}
use Rattle.njh_table.specs.declared.places.Key.{Key}
use Rattle.njh_table.specs.declared.places.Key.TheVariants as named
use Rattle.njh_table.specs.declared.places.PlacedFault.{PlacedFault}

-- a fault of a part as a whole
abbrev pub at_part : Part → TableFault → PlacedFault
at_part part fault = record { fault = fault; part = part; key = None }

-- a fault at a key of a part
abbrev pub at_value : Part → Key → TableFault → PlacedFault
at_value part key fault = record { fault = fault; part = part; key = Some key }

-- a key as a table file writes it
abbrev pub key_name : Key → List ℕ
key_name named.Capacity = codes "capacity"
key_name named.Customer = codes "customer"
key_name named.Name = codes "name"
key_name named.Hub = codes "hub"
key_name named.Quota = codes "quota"
key_name named.Files = codes "files"
key_name named.Line = codes "line"
key_name named.Route = codes "route"
key_name named.Node = codes "node"
key_name named.Role = codes "role"
key_name named.Block = codes "block"
key_name named.Streams = codes "streams"
key_name named.Password = codes "password"
key_name named.Port = codes "port"
key_name named.Connect = codes "connect"
key_name named.From = codes "from"
key_name named.Protocol = codes "protocol"
key_name named.Second = codes "second"
