-- Addresses, as an answer shows them: as `Display` writes them, but one of IPv4 that is mapped into IPv6
-- (RFC 4291, 2.5.5.2) as that of IPv4.
use Rattle.std.specs.Prelude.{ℕ, List, [], ◌∷◌, ◌++◌, bytes_eq, codes, cond, decimal, take, Option, Some, None}
use Rattle.std.specs.Net.Addr.{ipv4_octets, ipv6_segments, low_octets}
use Rattle.std.specs.Net.Socket.{v6_ip, v6_port}
use Rattle.std.specs.Net.Text.{ipv4_text, ipv6_text, socket_v4_text, socket_v6_text}
use Rattle.std.specs.declared.net.ip_addr.IpAddr.{IpAddr}
use Rattle.std.specs.declared.net.ip_addr.IpAddr.TheVariants as ip
use Rattle.std.specs.declared.net.ipv6_addr.Ipv6Addr.{Ipv6Addr}
use Rattle.std.specs.declared.net.socket_addr.SocketAddr.{SocketAddr}
use Rattle.std.specs.declared.net.socket_addr.SocketAddr.TheVariants as socket
use Rattle.std.specs.declared.net.socket_addr.SocketAddrV6.{SocketAddrV6}
use Rattle.serde_json.specs.Data.{Data, null, number, unsigned, string, object, member, no_members}
use Rattle.njh_answer.specs.declared.views.Refused.{Refused}

-- a, b, c and d of ::ffff:a.b.c.d
unfoldable pub mapped_octets : Ipv6Addr → Option (List ℕ)
mapped_octets a =
    cond (bytes_eq (take 6 (ipv6_segments a)) (0 ∷ 0 ∷ 0 ∷ 0 ∷ 0 ∷ 0xffff ∷ [])) (Some (low_octets a)) None

-- 198.51.100.4, 2001:db8::4
abbrev pub v6_text : Option (List ℕ) → Ipv6Addr → List ℕ
v6_text None a = ipv6_text (ipv6_segments a)
v6_text (Some octets) a = ipv4_text octets

abbrev pub address_text : IpAddr → List ℕ
address_text (ip.V4 a) = ipv4_text (ipv4_octets a)
address_text (ip.V6 a) = v6_text (mapped_octets a) a

-- 198.51.100.4:50112, [2001:db8::4]:50112
abbrev pub v6_site_text : Option (List ℕ) → SocketAddrV6 → List ℕ
v6_site_text None a = socket_v6_text a
v6_site_text (Some octets) a = ipv4_text octets ++ (codes ":" ++ decimal (v6_port a))

abbrev pub site_text : SocketAddr → List ℕ
site_text (socket.V4 a) = socket_v4_text a
site_text (socket.V6 a) = v6_site_text (mapped_octets (v6_ip a)) a

-- who waits for a line, or is on it
abbrev pub guest_data : SocketAddr → Data
guest_data address = string (site_text address)

abbrev pub peer_data : Option SocketAddr → Data
peer_data None = null
peer_data (Some address) = guest_data address

-- {"address":"198.51.100.4","count":3}
abbrev pub refused_data : Refused → Data
refused_data r = object (
    member (codes "address") (string (address_text r.address))
    (member (codes "count") (number (unsigned r.count)) no_members))
