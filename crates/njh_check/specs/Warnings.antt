-- What is told of tables that are right and may yet be a mistake: keys that nobody knows, a password that is sent to
-- whoever connects, and a port that two lines have.
use Rattle.std.specs.Prelude.{ℕ, zero, suc, ◌==◌, Bool, true, false, ◌&&◌, not, List, [], ◌∷◌, ◌++◌, codes, cond}
use Rattle.std.specs.Prelude.{length, bytes_eq, find, flat_map, Option, Some, None}
use Rattle.std.specs.Fmt.{decimal}
use Rattle.std.specs.List.{list_any}
use Rattle.std.specs.Option.{option_map_or}
use Rattle.toml.specs.Data.{Members, no_members, member}
use Rattle.njh_table.specs.declared.Role.{Role}
use Rattle.njh_table.specs.declared.Role.TheVariants.{Call, Answer}
use Rattle.njh_table.specs.declared.places.Key.{Key}
use Rattle.njh_table.specs.declared.places.Key.TheVariants as named
use Rattle.njh_table.specs.declared.places.Part.{Part}
use Rattle.njh_table.specs.declared.places.Part.TheVariants as parts
use Rattle.njh_table.specs.Places.{key_name}
use Rattle.njh_table.specs.TableFile.{NamedLine, NamedCustomer, TableFile, customer_at}
use Rattle.njh_check.specs.Elements.{part_keys}
use Rattle.njh_check.specs.FaultTexts.{part_words}
use Rattle.njh_check.specs.Reports.{has_password}
use Rattle.njh_check.specs.Words.{◌+++◌, is_shown}

-- a line of the report: where, and what
unfoldable pub warning : (place what : List ℕ) → List ℕ
warning place what = codes "warning: " +++ place +++ codes ": " +++ what +++ codes "\n"

-- ---- keys that nobody knows

-- the keys that a part of the file may have
unfoldable pub known_keys : Part → List Key
known_keys parts.File = named.Capacity ∷ named.Customer ∷ []
known_keys (parts.Customer c) =
    named.Name ∷ named.Hub ∷ named.Quota ∷ named.Files ∷ named.Line ∷ named.Route ∷ []
known_keys (parts.Line c n) =
    named.Name ∷ named.Node ∷ named.Role ∷ named.Block ∷ named.Streams ∷ named.Password ∷ named.Port
    ∷ named.Connect ∷ named.From ∷ named.Protocol ∷ []
known_keys (parts.Route c n) = named.Node ∷ named.Line ∷ named.Second ∷ []

abbrev pub is_known : Part → (name : List ℕ) → Bool
is_known part name = list_any (λ key. bytes_eq (key_name key) name) (known_keys part)

-- the names of keys, in their order
abbrev pub names_of : Members → List (List ℕ)
names_of no_members = []
names_of (member name value more) = name ∷ names_of more

unfoldable pub unknown_words : (name : List ℕ) → List ℕ
unknown_words name =
    cond (is_shown name) (codes "unknown key \"" +++ name +++ codes "\"")
    (codes "unknown key, which is long or has other characters than ASCII's")

-- of a key of the part that is this place
unfoldable pub key_warning : Part → (place name : List ℕ) → List ℕ
key_warning part place name = cond (is_known part name) [] (warning place (unknown_words name))

-- of the keys of a part
unfoldable pub keys_warnings : Part → (place : List ℕ) → Members → List ℕ
keys_warnings part place keys = flat_map (key_warning part place) (names_of keys)

unfoldable pub part_warnings : Members → Part → List ℕ
part_warnings document part =
    option_map_or (λ keys. keys_warnings part (part_words part document) keys) (part_keys part document) []

-- what is told of each number below another
abbrev pub below : (ℕ → List ℕ) → ℕ → List ℕ
below told zero = []
below told (suc n) = below told n ++ told n

-- of a customer, its lines and its routes
unfoldable pub customer_warnings : Members → ℕ → NamedCustomer → List ℕ
customer_warnings document c customer =
    part_warnings document (parts.Customer c)
    ++ below (λ n. part_warnings document (parts.Line c n)) (length customer.lines)
    ++ below (λ n. part_warnings document (parts.Route c n)) (length customer.routes)

unfoldable pub file_warnings : Members → TableFile → List ℕ
file_warnings document t =
    part_warnings document parts.File
    ++ below (λ c. customer_warnings document c (customer_at t c)) (length t.customers)

-- ---- lines

abbrev pub is_call : Role → Bool
is_call Call = true
is_call Answer = false

-- the place that a line is by its name, which no other line of the hub has
abbrev pub line_place : NamedLine → List ℕ
line_place l = codes "line " +++ l.name

-- of a line that calls whoever connects to its port
unfoldable pub call_warning : NamedLine → List ℕ
call_warning l =
    cond (is_call l.entry.role && not (l.port == 0) && has_password l.entry.password)
    (warning (line_place l) (codes "whoever connects to its port is sent the password")) []

-- the first line that has a port
abbrev pub first_on : (port : ℕ) → List NamedCustomer → Option NamedLine
first_on port customers = find (λ l. l.port == port) (flat_map (λ c. c.lines) customers)

-- of a line, by the first that has its port
unfoldable pub shared_words : NamedLine → Option NamedLine → List ℕ
shared_words l None = []
shared_words l (Some first) =
    cond (bytes_eq first.name l.name) []
    (warning (line_place l) (codes "port " +++ decimal l.port +++ codes " is line " +++ first.name
    +++ codes "'s too, and serve refuses that"))

unfoldable pub port_warning : List NamedCustomer → NamedLine → List ℕ
port_warning customers l = cond (l.port == 0) [] (shared_words l (first_on l.port customers))

unfoldable pub line_warnings : List NamedCustomer → NamedLine → List ℕ
line_warnings customers l = call_warning l ++ port_warning customers l

-- of the lines of some of the customers
unfoldable pub lines_warnings : (all some : List NamedCustomer) → List ℕ
lines_warnings all some = flat_map (λ c. flat_map (line_warnings all) c.lines) some

-- ---- all that is told, in the order of the file: of keys, and then of lines

unfoldable pub warnings_of : Members → TableFile → List ℕ
warnings_of document t = file_warnings document t ++ lines_warnings t.customers t.customers
