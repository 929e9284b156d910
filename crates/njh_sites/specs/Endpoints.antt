-- The lines of tables that are served, and how each is connected.
use Rattle.std.specs.Prelude.{ℕ, ◌==◌, if◌then◌else◌, List, map, Option, Some, None, option_and_then}
use Rattle.std.specs.List.{filter_map, flat_map}
use Rattle.std.specs.Option.{option_map}
use Rattle.std.specs.declared.net.socket_addr.SocketAddr.{SocketAddr}
use Rattle.njh_table.specs.declared.LineId.{LineId}
use Rattle.njh_table.specs.TableFile.{TableFile, NamedCustomer, NamedLine, line_named}
use Rattle.njh_sites.specs.declared.endpoints.Endpoint.{Endpoint}
use Rattle.njh_sites.specs.declared.site.Site.{Site}
use Rattle.njh_sites.specs.declared.site.Site.TheVariants.{Listens, Dials}

-- how a line is connected: it dials its peer, or listens on its port; one without either isn't served
abbrev pub site_of : NamedLine → Option (Site ℕ SocketAddr)
site_of l = elim l.peer [
  | Some address ↦ Some (Dials address)
  | None ↦ if l.port == 0 then None else Some (Listens l.port)
]

-- a line that is served, by its number
abbrev pub endpoint_at : TableFile → NamedLine → Site ℕ SocketAddr → Option Endpoint
endpoint_at t l site =
    option_map (λ line. record { line = line; site = site; protocol = l.protocol }) (line_named t l.name)

abbrev pub endpoint_of : TableFile → NamedLine → Option Endpoint
endpoint_of t l = option_and_then (endpoint_at t l) (site_of l)

-- those of a customer, in their order
abbrev pub endpoints_in : TableFile → NamedCustomer → List Endpoint
endpoints_in t c = filter_map (endpoint_of t) c.lines

-- those of all customers
abbrev pub endpoints_of : TableFile → List Endpoint
endpoints_of t = flat_map (endpoints_in t) t.customers

abbrev pub lines_of : List Endpoint → List LineId
lines_of endpoints = map (λ endpoint. endpoint.line) endpoints
