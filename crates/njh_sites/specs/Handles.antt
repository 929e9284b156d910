-- How many handles the lines that are served need: sockets and files that may be open at once.
use Rattle.std.specs.Prelude.{ℕ, ◌+◌, List, sum_by}
use Rattle.njh_sites.specs.declared.endpoints.Endpoint.{Endpoint}
use Rattle.njh_sites.specs.declared.site.Site.TheVariants.{Listens, Dials}

-- a line's: its peer, and if it listens its socket
abbrev pub handles_of : Endpoint → ℕ
handles_of endpoint = elim endpoint.site [
  | Listens port ↦ 2
  | Dials peer ↦ 1
]

-- all lines', and fifteen for what else is open
abbrev pub handles_needed : List Endpoint → ℕ
handles_needed endpoints = 15 + sum_by handles_of endpoints
