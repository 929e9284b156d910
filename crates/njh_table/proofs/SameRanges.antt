-- That `==` of two ranges of addresses says whether they are the same.
use Rattle.std.proofs.Common.{◌≡◌, ◌==◌, ◌&&◌, ℕ, Bool, false, bytes_eq, ap, sym, ◌∙◌}
use Rattle.std.specs.Bool.{Decides}
use Rattle.std.specs.declared.net.ip_addr.IpAddr.{IpAddr}
use Rattle.std.specs.declared.net.ip_addr.IpAddr.TheVariants.{V4, V6}
use Rattle.std.specs.declared.net.ipv4_addr.Ipv4Addr.{Ipv4Addr}
use Rattle.std.specs.declared.net.ipv6_addr.Ipv6Addr.{Ipv6Addr}
use Rattle.std.proofs.lemmas.Bool.{and_parts, and_from, false≢true}
use Rattle.std.proofs.lemmas.Bool.Decides.{Decides-eqb}
use Rattle.std.proofs.lemmas.Slice.Eq.{bytes_eq-Decides}
use Rattle.njh_table.specs.declared.address_range.AddressRange.{AddressRange}

abbrev range_of : IpAddr → ℕ → AddressRange
range_of address bits = record { address = address; bits = bits }

-- a test of two ranges, by the numbers that it compares
pub record IsTest (test : AddressRange → AddressRange → Bool) : Type 0 where
  pub four : (x y : Ipv4Addr) (m n : ℕ)
      → test (range_of (V4 x) m) (range_of (V4 y) n)
      ≡ (bytes_eq x.octets y.octets && (m == n))
  pub six : (x y : Ipv6Addr) (m n : ℕ)
      → test (range_of (V6 x) m) (range_of (V6 y) n)
      ≡ (bytes_eq x.segments y.segments && (m == n))
  pub four_six : (x : Ipv4Addr) (y : Ipv6Addr) (m n : ℕ)
      → test (range_of (V4 x) m) (range_of (V6 y) n) ≡ false
  pub six_four : (x : Ipv6Addr) (y : Ipv4Addr) (m n : ℕ)
      → test (range_of (V6 x) m) (range_of (V4 y) n) ≡ false

pub ranges_decide : (test : AddressRange → AddressRange → Bool) → IsTest test
    → (a b : AddressRange) → Decides (test a b) (a ≡ b)
ranges_decide test is a b = by a.address b.address a.bits b.bits
  where
    by : (p q : IpAddr) (m n : ℕ)
        → Decides (test (range_of p m) (range_of q n))
        (range_of p m ≡ range_of q n)
    by (V4 x) (V4 y) m n = (
      λ holds.
          let (numbers, bits) = and_parts (bytes_eq x.octets y.octets) (m == n) (sym (is.four x y m n) ∙ holds) in
          let own : x.octets ≡ y.octets = (bytes_eq-Decides x.octets y.octets).0 numbers in
          let count : m ≡ n = (Decides-eqb m n).0 bits in
          λ i. record { address = V4 (record { octets = own i }); bits = count i },
      λ same.
          let address : V4 x ≡ V4 y = ap (λ (r : AddressRange). r.address) same in
          let own : x ≡ y = cc address in
          is.four x y m n
          ∙ and_from (bytes_eq x.octets y.octets) (m == n)
          ((bytes_eq-Decides x.octets y.octets).1 (ap (λ (ip : Ipv4Addr). ip.octets) own))
          ((Decides-eqb m n).1 (ap (λ (r : AddressRange). r.bits) same)),
    )
    by (V6 x) (V6 y) m n = (
      λ holds.
          let (numbers, bits) = and_parts (bytes_eq x.segments y.segments) (m == n) (sym (is.six x y m n) ∙ holds) in
          let own : x.segments ≡ y.segments = (bytes_eq-Decides x.segments y.segments).0 numbers in
          let count : m ≡ n = (Decides-eqb m n).0 bits in
          λ i. record { address = V6 (record { segments = own i }); bits = count i },
      λ same.
          let address : V6 x ≡ V6 y = ap (λ (r : AddressRange). r.address) same in
          let own : x ≡ y = cc address in
          is.six x y m n
          ∙ and_from (bytes_eq x.segments y.segments) (m == n)
          ((bytes_eq-Decides x.segments y.segments).1 (ap (λ (ip : Ipv6Addr). ip.segments) own))
          ((Decides-eqb m n).1 (ap (λ (r : AddressRange). r.bits) same)),
    )
    by (V4 x) (V6 y) m n = (
      λ holds. absurd (false≢true (sym (is.four_six x y m n) ∙ holds)),
      λ same. let address : V4 x ≡ V6 y = ap (λ (r : AddressRange). r.address) same in cc address,
    )
    by (V6 x) (V4 y) m n = (
      λ holds. absurd (false≢true (sym (is.six_four x y m n) ∙ holds)),
      λ same. let address : V6 x ≡ V4 y = ap (λ (r : AddressRange). r.address) same in cc address,
    )
