-- The sockets of lines: which ports are listened on, and at which address.
use Rattle.std.specs.Prelude.{◌≡◌, ℕ, Bool, true, false, ◌==◌, List, take, Some, slice_get, AllPairs}
use Rattle.std.specs.List.{list_any}
use Rattle.std.specs.declared.net.ip_addr.IpAddr.{IpAddr}
use Rattle.std.specs.declared.net.socket_addr.SocketAddr.{SocketAddr}
use Rattle.std.specs.Net.Socket.{socket_ip, socket_port}
use Rattle.njh_sites.specs.Doors.{door_address}
use Rattle.njh_sites.specs.declared.dial.Dial.{Dial}
use Rattle.njh_sites.specs.declared.door.Door.{Door}
use Rattle.njh_sites.specs.declared.endpoints.Endpoint.{Endpoint}
use Rattle.njh_sites.specs.declared.site.Site.{Site}
use Rattle.njh_sites.specs.declared.site.Site.TheVariants.{Listens, Dials}

-- what a line is to have on this address: the address and the port on which it listens, or the peer that it dials
abbrev pub site_on : IpAddr → Site ℕ SocketAddr → Site (IpAddr × ℕ) SocketAddr
site_on address (Listens port) = Listens (address, port)
site_on address (Dials peer) = Dials peer

-- what a line has, whether its door is open or shut
abbrev pub site_opened : {L : Type 0} → (L → SocketAddr) → Site (Door L) SocketAddr → Site (IpAddr × ℕ) SocketAddr
site_opened address_of (Listens door) =
    Listens (socket_ip (door_address address_of door), socket_port (door_address address_of door))
site_opened address_of (Dials peer) = Dials peer

-- what one that is served has
abbrev pub site_kept : {L C : Type 0} → (L → SocketAddr) → Site (Door L) (Dial C) → Site (IpAddr × ℕ) SocketAddr
site_kept address_of (Listens door) =
    Listens (socket_ip (door_address address_of door), socket_port (door_address address_of door))
site_kept address_of (Dials dial) = Dials dial.address

-- two lines have the same port
abbrev pub is_same_site : Site ℕ SocketAddr → Site ℕ SocketAddr → Bool
is_same_site (Listens port) (Listens other) = port == other
is_same_site (Listens port) (Dials other) = false
is_same_site (Dials peer) other = false

abbrev pub is_same_port : Endpoint → Endpoint → Bool
is_same_port endpoint other = is_same_site endpoint.site other.site

-- no two have the same port
abbrev pub IsApart : List Endpoint → Type 0
IsApart endpoints = AllPairs (λ before endpoint. is_same_port endpoint before ≡ false) endpoints

-- the first whose port is that of one before it
pub record IsRepeated (endpoints : List Endpoint) (endpoint : Endpoint) : Type 0 where
  pub place : ℕ
  pub there : slice_get endpoints place ≡ Some endpoint
  pub before : list_any (is_same_port endpoint) (take place endpoints) ≡ true
  pub first : IsApart (take place endpoints)
