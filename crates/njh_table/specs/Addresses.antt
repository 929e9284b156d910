-- The address that a text writes: an IP address and a port, as `127.0.0.1:17501` or `[::1]:17501`, or one without a
-- port. A law says that it is the one that the standard library's grammar of such texts gives, and that a text outside
-- that grammar gives none.
use Rattle.std.specs.Prelude.{ℕ, List, Option, Some, None, option_map}
use Rattle.std.specs.declared.net.ip_addr.IpAddr.{IpAddr}
use Rattle.std.specs.declared.net.ip_addr.IpAddr.TheVariants as ip
use Rattle.std.specs.declared.net.socket_addr.SocketAddr.{SocketAddr}
use Rattle.std.specs.declared.net.socket_addr.SocketAddr.TheVariants.{V4, V6}
use Rattle.std.specs.Net.Reader.{whole_value, read_ipv4, read_ipv6, read_socket_v4, read_socket_v6}

-- four octets and a port
abbrev pub address_v4 : List ℕ × ℕ → SocketAddr
address_v4 p = V4 (record { ip = record { octets = p.0 }; port = p.1 })

-- eight segments, a port, no flow information and a scope
abbrev pub address_v6 : List ℕ × ℕ × ℕ × ℕ → SocketAddr
address_v6 p = V6 (record { ip = record { segments = p.0 }; port = p.1; flowinfo = p.2; scope_id = p.3 })

-- the first of two that there is
abbrev pub v4_or : {A : Type 0} → Option A → Option A → Option A
v4_or (Some a) other = Some a
v4_or None other = other

-- the address that a text writes
unfoldable pub address_of : List ℕ → Option SocketAddr
address_of text =
    let four = option_map address_v4 (whole_value (read_socket_v4 text)) in
    let six = option_map address_v6 (whole_value (read_socket_v6 text)) in
    v4_or four six

-- four octets, and eight segments
abbrev pub ip_v4 : List ℕ → IpAddr
ip_v4 octets = ip.V4 (record { octets = octets })

abbrev pub ip_v6 : List ℕ → IpAddr
ip_v6 segments = ip.V6 (record { segments = segments })

-- the address without a port that a text writes
unfoldable pub ip_of : List ℕ → Option IpAddr
ip_of text =
    let four = option_map ip_v4 (whole_value (read_ipv4 text)) in
    let six = option_map ip_v6 (whole_value (read_ipv6 text)) in
    v4_or four six
