-- The keys of a table file, which is written in TOML: what a key's value must be, and the fault with its place where it
-- isn't.
use Rattle.std.specs.Prelude.{ℕ, suc, ℤ, pos, negsuc, ◌+◌, Bool, true, false, not, ◌&&◌, ◌||◌, ◌==◌, if◌then◌else◌}
use Rattle.std.specs.Prelude.{List, [], ◌∷◌, length, take, drop, slice_get, codes, bytes_eq, nat_lt, Option, Some, None}
use Rattle.std.specs.Prelude.{is_none, option_and_then, option_map, ok_or, Result, Ok, Err}
use Rattle.std.specs.List.{list_all, position}
use Rattle.std.specs.Option.{option_map_or}
use Rattle.std.specs.Result.{result_ok}
use Rattle.std.specs.Str.Parse.{digits_value}
use Rattle.std.specs.declared.net.socket_addr.SocketAddr.{SocketAddr}
use Rattle.std.specs.declared.net.ip_addr.IpAddr.{IpAddr}
use Rattle.std.specs.Net.Socket.{socket_port}
use Rattle.toml.specs.Data.{Data, Items, no_items, item, Members, get_member, as_str, as_integer, as_array, as_table}
use Rattle.njh_ebcdic.specs.Names.{within}
use Rattle.njh_ebcdic.specs.Reading.{name_of_text}
use Rattle.njh_table.specs.declared.Protocol.{Protocol}
use Rattle.njh_table.specs.declared.Protocol.TheVariants.{Bisync, Tcp}
use Rattle.njh_table.specs.declared.Role.{Role}
use Rattle.njh_table.specs.declared.Role.TheVariants.{Call, Answer}
use Rattle.njh_table.specs.declared.fault.TableFault.{TableFault}
use Rattle.njh_table.specs.declared.fault.TableFault.TheVariants.{MissingKey, BadValue}
use Rattle.njh_table.specs.Limits.{max_line_name, max_ranges}
use Rattle.njh_table.specs.declared.address_range.AddressRange.{AddressRange}
use Rattle.njh_table.specs.declared.places.Key.{Key}
use Rattle.njh_table.specs.declared.places.Part.{Part}
use Rattle.njh_table.specs.declared.places.PlacedFault.{PlacedFault}
use Rattle.njh_table.specs.Addresses.{address_of, ip_of}
use Rattle.njh_table.specs.Places.{at_part, at_value, key_name}
use Rattle.njh_table.specs.Ranges.{is_range, own_range}

-- what a test or a part of the walk gives, or the first fault
abbrev pub Walked : Type 0 → Type 0
Walked A = Result A TableFault

-- the same, and the fault has its place
abbrev pub Placed : Type 0 → Type 0
Placed A = Result A PlacedFault

infixl 10 ◌>>=◌
abbrev pub ◌>>=◌ : {A B E : Type 0} → Result A E → (A → Result B E) → Result B E
(Ok x) >>= next = next x
(Err fault) >>= next = Err fault

infixl 10 ◌>>◌
abbrev pub ◌>>◌ : {A B E : Type 0} → Result A E → Result B E → Result B E
walked >> next = walked >>= (λ _. next)

-- the fault, where the test holds
abbrev pub fault_where : {E : Type 0} → Bool → E → Result (Unit {0}) E
fault_where true fault = Err fault
fault_where false fault = Ok tt

-- the fault alone
abbrev pub without_place : {A : Type 0} → Placed A → Walked A
without_place (Ok x) = Ok x
without_place (Err placed) = Err placed.fault

-- ---- the values of keys

-- a whole number between two, both among them
abbrev pub number_between : ℕ → ℕ → ℤ → Option ℕ
number_between low high (pos n) = if within low high n then Some n else None
number_between low high (negsuc n) = None

abbrev pub number : ℕ → ℕ → Data → Option ℕ
number low high value = option_and_then (number_between low high) (as_integer value)

-- the name that a text is
abbrev pub node_name : Data → Option (List ℕ)
node_name value = option_and_then (λ text. result_ok (name_of_text text)) (as_str value)

-- no text, or a name
abbrev pub password_of : List ℕ → Option (List ℕ)
password_of [] = Some []
password_of (c ∷ text) = result_ok (name_of_text (c ∷ text))

abbrev pub password : Data → Option (List ℕ)
password value = option_and_then password_of (as_str value)

-- 1 to 8 letters and digits of ASCII
abbrev pub is_letter_or_digit : ℕ → Bool
is_letter_or_digit c = within 48 57 c || within 65 90 c || within 97 122 c

abbrev pub is_line_name : List ℕ → Bool
is_line_name text = within 1 max_line_name (length text) && list_all is_letter_or_digit text

abbrev pub line_name_of : List ℕ → Option (List ℕ)
line_name_of text = if is_line_name text then Some text else None

abbrev pub line_name : Data → Option (List ℕ)
line_name value = option_and_then line_name_of (as_str value)

abbrev pub role_of : List ℕ → Option Role
role_of text =
    if bytes_eq text (codes "call") then Some Call else if bytes_eq text (codes "answer") then Some Answer else None

abbrev pub role : Data → Option Role
role value = option_and_then role_of (as_str value)

-- the name of a route's second line: any text but the first one's
abbrev pub other_text : List ℕ → List ℕ → Option (Option (List ℕ))
other_text first text = if bytes_eq text first then None else Some (Some text)

abbrev pub second_line : List ℕ → Data → Option (Option (List ℕ))
second_line first value = option_and_then (other_text first) (as_str value)

-- an address at which a peer can listen: its port isn't 0
abbrev pub peer_address : SocketAddr → Option SocketAddr
peer_address address = if socket_port address == 0 then None else Some address

-- where the peer of a line with this port listens, by a text: a line with a port of its own has no such peer
abbrev pub peer_of : ℕ → List ℕ → Option SocketAddr
peer_of port text = if port == 0 then option_and_then peer_address (address_of text) else None

abbrev pub peer : ℕ → Data → Option (Option SocketAddr)
peer port value = option_map Some (option_and_then (peer_of port) (as_str value))

-- ---- from where a peer may connect

-- a number as it is written in decimal: digits alone, and the first of several isn't 0
abbrev pub is_digit : ℕ → Bool
is_digit c = within 48 57 c

abbrev pub leads : List ℕ → Bool
leads text = option_map_or (λ first. (length text == 1) || not (first == 48)) (slice_get text 0) false

abbrev pub is_decimal : List ℕ → Bool
is_decimal text = list_all is_digit text && leads text

-- the number below 256 that a text writes
abbrev pub bits_of : List ℕ → Option ℕ
bits_of text = if is_decimal text && nat_lt (digits_value 10 text) 256 then Some (digits_value 10 text) else None

-- what stands before the first slash of a text and what after it
abbrev pub halves : List ℕ → Option (List ℕ × List ℕ)
halves text = option_map (λ place. (take place text, drop (place + 1) text)) (position (λ c. c == 47) text)

-- an address and its first bits, if that is a range that may be written
abbrev pub range_with : IpAddr → ℕ → Option AddressRange
range_with address bits =
    let range : AddressRange = record { address = address; bits = bits } in
    if is_range range then Some range else None

-- the range that a text writes whole, or in two halves: an address by itself, or an address and its first bits
abbrev pub range_in : List ℕ → Option (List ℕ × List ℕ) → Option AddressRange
range_in text None = option_map own_range (ip_of text)
range_in text (Some halves) =
    option_and_then (λ address. option_and_then (range_with address) (bits_of halves.1)) (ip_of halves.0)

abbrev pub range_of : List ℕ → Option AddressRange
range_of text = range_in text (halves text)

abbrev pub range : Data → Option AddressRange
range value = option_and_then range_of (as_str value)

-- those that the texts of a list write, in their order
abbrev pub ranges_in : Items → Option (List AddressRange)
ranges_in no_items = Some []
ranges_in (item value more) =
    option_and_then (λ first. option_map (λ others. first ∷ others) (ranges_in more)) (range value)

abbrev pub count_of : Items → ℕ
count_of no_items = 0
count_of (item value more) = suc (count_of more)

-- a line with this port may have so many: none without a port of its own
abbrev pub may_have : ℕ → ℕ → Bool
may_have port count = not (port == 0) && within 1 max_ranges count

abbrev pub ranges_of : ℕ → Items → Option (List AddressRange)
ranges_of port values = if may_have port (count_of values) then ranges_in values else None

-- from where the peer of a line with this port may connect
abbrev pub from : ℕ → Data → Option (List AddressRange)
from port value = option_and_then (ranges_of port) (as_array value)

-- ---- how a line's bytes are written on its connections

-- over TCP the end that connects makes contact: a line that calls has no port, and one that answers no peer's address
abbrev pub may_be_tcp : Role → ℕ → Option SocketAddr → Bool
may_be_tcp Call port peer = port == 0
may_be_tcp Answer port peer = is_none peer

-- the protocol of a name, if TCP may be named
abbrev pub protocol_of : Bool → List ℕ → Option Protocol
protocol_of tcp text =
    if bytes_eq text (codes "bisync") then Some Bisync else if tcp && bytes_eq text (codes "tcp") then Some Tcp else
    None

abbrev pub protocol : Bool → Data → Option Protocol
protocol tcp value = option_and_then (protocol_of tcp) (as_str value)

-- ---- keys

-- the keys of an element of a list, which is this part of the file
abbrev pub keys_in : Part → Data → Placed Members
keys_in part value = ok_or (as_table value) (at_part part BadValue)

-- the value of a part's key that must be there
abbrev pub at_key : {A : Type 0} → (Data → Option A) → Part → Key → Members → Placed A
at_key read part key keys = do
  value ← ok_or (get_member (key_name key) keys) (at_value part key MissingKey)
  ok_or (read value) (at_value part key BadValue)

-- the value of a part's key that may be missing, and is then another
abbrev pub value_or : {A : Type 0} → (Data → Option A) → A → Part → Key → Option Data → Placed A
value_or read other part key None = Ok other
value_or read other part key (Some value) = ok_or (read value) (at_value part key BadValue)

abbrev pub at_key_or : {A : Type 0} → (Data → Option A) → A → Part → Key → Members → Placed A
at_key_or read other part key keys = value_or read other part key (get_member (key_name key) keys)
