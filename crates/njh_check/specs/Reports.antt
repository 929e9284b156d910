-- The report of tables that are right.
use Rattle.std.specs.Prelude.{ℕ, ◌-◌, ◌==◌, Bool, true, false, List, [], ◌∷◌, ◌++◌, codes, cond, sum_by}
use Rattle.std.specs.Prelude.{length, slice_get, Option, Some, None, flat_map}
use Rattle.std.specs.Fmt.{decimal}
use Rattle.std.specs.Option.{option_map_or}
use Rattle.std.specs.declared.net.socket_addr.SocketAddr.{SocketAddr}
use Rattle.std.specs.Net.Text.{ip_text, socket_text}
use Rattle.njh_ebcdic.specs.Characters.{shown_text}
use Rattle.njh_ebcdic.specs.Names.{without_end_blanks}
use Rattle.njh_table.specs.declared.Protocol.{Protocol}
use Rattle.njh_table.specs.declared.Protocol.TheVariants.{Bisync, Tcp}
use Rattle.njh_table.specs.declared.Role.{Role}
use Rattle.njh_table.specs.declared.Role.TheVariants.{Call, Answer}
use Rattle.njh_table.specs.declared.address_range.AddressRange.{AddressRange}
use Rattle.njh_table.specs.Entries.{RouteEntry}
use Rattle.njh_table.specs.Ranges.{is_single}
use Rattle.njh_table.specs.TableFile.{NamedLine, NamedCustomer, TableFile}
use Rattle.njh_check.specs.Words.{◌+++◌}

-- a name as people write it
abbrev pub name_text : List ℕ → List ℕ
name_text name = shown_text (without_end_blanks name)

unfoldable pub role_words : Role → List ℕ
role_words Call = codes "call"
role_words Answer = codes "answer"

unfoldable pub port_words : ℕ → List ℕ
port_words port = cond (port == 0) (codes "no port") (codes "port " +++ decimal port)

-- where a line's peer is: it connects to the port, or the hub connects to its address
unfoldable pub peer_words : ℕ → Option SocketAddr → List ℕ
peer_words port None = port_words port
peer_words port (Some address) = codes "connect " +++ socket_text address

-- an address by itself, or an address and how many of its first bits count
unfoldable pub range_words : AddressRange → List ℕ
range_words range =
    cond (is_single range) (codes " " +++ ip_text range.address)
    (codes " " +++ ip_text range.address +++ codes "/" +++ decimal range.bits)

-- from where a line's peer may connect, if that isn't from anywhere
unfoldable pub from_words : List AddressRange → List ℕ
from_words ranges = cond (length ranges == 0) (codes "") (codes ", from" ++ flat_map range_words ranges)

-- how a line's bytes are written on its connections, if that isn't as on a bisync line
unfoldable pub protocol_words : Protocol → List ℕ
protocol_words Bisync = codes ""
protocol_words Tcp = codes ", protocol tcp"

-- how much a line takes at once
unfoldable pub size_words : ℕ → ℕ → List ℕ
size_words block streams = codes "block " +++ decimal block +++ codes ", streams " +++ decimal streams

-- a line by its name and its node
unfoldable pub name_words : NamedLine → List ℕ
name_words l = codes "  line " +++ l.name +++ codes ": node " +++ name_text l.entry.node +++ codes ", "

unfoldable pub line_text : NamedLine → List ℕ
line_text l =
    name_words l +++ role_words l.entry.role +++ codes ", " +++ peer_words l.port l.peer +++ from_words l.from
    +++ protocol_words l.protocol +++ codes ", " +++ size_words l.entry.block l.entry.streams +++ codes "\n"

abbrev pub has_password : List ℕ → Bool
has_password [] = false
has_password (c ∷ cs) = true

-- whether a line has a password, which isn't told
unfoldable pub password_text : NamedLine → List ℕ
password_text l =
    codes "  password " +++ l.name +++ cond (has_password l.entry.password) (codes ": set\n") (codes ": none\n")

-- all that is told of a line
unfoldable pub line_report : NamedLine → List ℕ
line_report l = line_text l ++ password_text l

-- the name of a customer's line
unfoldable pub line_name : List NamedLine → ℕ → List ℕ
line_name lines number = option_map_or (λ l. l.name) (slice_get lines number) (codes "")

unfoldable pub second_words : List NamedLine → Option ℕ → List ℕ
second_words lines None = codes ""
second_words lines (Some number) = codes ", second line " +++ line_name lines number

unfoldable pub route_text : List NamedLine → RouteEntry → List ℕ
route_text lines r =
    codes "  route " +++ name_text r.node +++ codes ": line " +++ line_name lines r.line +++ second_words lines r.second
    +++ codes "\n"

-- a customer without its lines and routes
unfoldable pub head_text : NamedCustomer → List ℕ
head_text c =
    codes "customer " +++ name_text c.name +++ codes ": hub " +++ name_text c.hub +++ codes ", quota "
    +++ decimal c.quota +++ codes " blocks, " +++ decimal c.files +++ codes " files\n"

unfoldable pub customer_text : NamedCustomer → List ℕ
customer_text c = head_text c ++ flat_map line_report c.lines ++ flat_map (route_text c.lines) c.routes

-- the spool's blocks: all, those that the quotas promise, and those that are left
unfoldable pub capacity_text : ℕ → ℕ → List ℕ
capacity_text capacity quotas =
    codes "capacity " +++ decimal capacity +++ codes " blocks, quotas " +++ decimal quotas +++ codes ", left "
    +++ decimal (capacity - quotas) +++ codes "\n"

unfoldable pub report_of : TableFile → List ℕ
report_of t = flat_map customer_text t.customers ++ capacity_text t.capacity (sum_by (λ c. c.quota) t.customers)
