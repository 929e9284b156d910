-- The IPv4 address that is mapped into one of IPv6.
use Rattle.std.proofs.Common.{◌≡◌, ◌↔◌, [], ◌∷◌, false, bytes_eq, refl, take}
use Rattle.std.proofs.Common.{Option, Some, None, arith}
use Rattle.std.proofs.lemmas.Slice.Eq.{bytes_eq-Decides}
use Rattle.std.specs.Net.Addr.{IsIpv4Mapped, ipv4_octets, ipv6_segments, low_octets}
use Rattle.std.specs.Option.{option_map}
use Rattle.std.specs.Prelude.{IfSome, IsSome}
use Rattle.std.specs.declared.net.ipv4_addr.Ipv4Addr.{Ipv4Addr}
use Rattle.std.specs.declared.net.ipv6_addr.Ipv6Addr.{Ipv6Addr}
use Rattle.njh_answer.specs.Addresses.{mapped_octets}

pub mapped_by : (r : Option Ipv4Addr) (a : Ipv6Addr) → (IsSome r ↔ IsIpv4Mapped (ipv6_segments a))
    → IfSome r (λ ip. ipv4_octets ip ≡ low_octets a) → option_map ipv4_octets r ≡ mapped_octets a
unfolding mapped_octets
mapped_by (Some ip) a found value =
    let mapped = (bytes_eq-Decides (take 6 (ipv6_segments a)) (0 ∷ 0 ∷ 0 ∷ 0 ∷ 0 ∷ 0xffff ∷ [])).1 (found.0 refl) in
    rw (mapped, value) refl
mapped_by None a found value =
    let other : bytes_eq (take 6 (ipv6_segments a)) (0 ∷ 0 ∷ 0 ∷ 0 ∷ 0 ∷ 0xffff ∷ []) ≡ false =
    grind (arith, bytes_eq-Decides (take 6 (ipv6_segments a)) (0 ∷ 0 ∷ 0 ∷ 0 ∷ 0 ∷ 0xffff ∷ []), found) in
    rw other refl
