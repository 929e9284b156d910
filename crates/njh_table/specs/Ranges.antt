-- A range of addresses: those that are alike in their first bits. An address by itself is the range of all its bits.
use Rattle.std.specs.Prelude.{ℕ, ◌+◌, ◌-◌, ◌/◌, ◌%◌, ◌^◌, ◌==◌, ◌&&◌, ◌||◌, Bool, nat_le, List, length}
use Rattle.std.specs.List.{list_any}
use Rattle.std.specs.Net.Addr.{ipv4_bits, ipv6_bits}
use Rattle.std.specs.declared.net.ip_addr.IpAddr.{IpAddr}
use Rattle.std.specs.declared.net.ip_addr.IpAddr.TheVariants.{V4, V6}
use Rattle.njh_table.specs.declared.address_range.AddressRange.{AddressRange}

-- how many bits an address has
abbrev pub width : IpAddr → ℕ
width (V4 ip) = 32
width (V6 ip) = 128

-- The number by which an address is known: that of IPv6. An IPv4 address has the number of the one into which it is
-- mapped (RFC 4291, 2.5.5.2).
unfoldable pub number_of : IpAddr → ℕ
number_of (V4 ip) = 0xffff00000000 + ipv4_bits ip
number_of (V6 ip) = ipv6_bits ip

-- how many of the last bits of an address a range leaves open
abbrev pub open_bits : AddressRange → ℕ
open_bits range = width range.address - range.bits

-- the number of an address without its last bits, of which there are so many
unfoldable pub without_last : ℕ → IpAddr → ℕ
without_last bits address = number_of address / 2 ^ bits

-- an address is in a range if it is the range's own but for the bits that the range leaves open
unfoldable pub contains : AddressRange → IpAddr → Bool
contains range address = without_last (open_bits range) address == without_last (open_bits range) range.address

-- connections are taken from the addresses of some ranges, or, if there is none, from all
abbrev pub allows : List AddressRange → IpAddr → Bool
allows ranges address = (length ranges == 0) || list_any (λ range. contains range address) ranges

-- the last bits of an address, of which there are so many, are 0
unfoldable pub ends_in_zeros : ℕ → IpAddr → Bool
ends_in_zeros bits address = number_of address % 2 ^ bits == 0

-- a range may be written: it fixes no more bits than its address has, and those that it leaves open are 0
abbrev pub is_range : AddressRange → Bool
is_range range = nat_le range.bits (width range.address) && ends_in_zeros (open_bits range) range.address

-- it is an address by itself: that has all its bits
abbrev pub is_single : AddressRange → Bool
is_single range = range.bits == width range.address

-- the range of an address by itself
abbrev pub own_range : IpAddr → AddressRange
own_range address = record { address = address; bits = width address }
