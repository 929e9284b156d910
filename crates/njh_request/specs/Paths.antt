-- What a path names: `/v1/` and words, which strokes part. Names are those of the tables. What may not stand in a path
-- of HTTP is written by escapes, as `%23` for `#` (RFC 3986, 2.1).
use Rattle.std.specs.Prelude.{ℕ, ◌+◌, ◌-◌, ◌*◌, ◌==◌, ◌&&◌, Bool, List, [], ◌∷◌, length, take, drop, codes, cond, not}
use Rattle.std.specs.Prelude.{nat_le, bytes_eq, if◌then◌else◌, Option, Some, None, option_and_then, position}
use Rattle.std.specs.Prelude.{Result, Ok, Err}
use Rattle.std.specs.Borrow.{Bor}
use Rattle.std.specs.List.{list_all, slice_split}
use Rattle.std.specs.Option.{option_map}
use Rattle.std.specs.Str.{is_utf8}
use Rattle.percent_encoding.specs.Percent.{percent_decode}
use Rattle.njh_ebcdic.specs.Names.{is_empty, within}
use Rattle.std.specs.Result.{result_ok}
use Rattle.njh_ebcdic.specs.Reading.{name_of_text}
use Rattle.njh_table.specs.TableFile.{TableFile, line_named}
use Rattle.njh_table.specs.declared.LineId.{LineId}
use Rattle.njh_request.specs.OrderNames.{order_name_of}
use Rattle.njh_request.specs.Quotes.{quote_of}
use Rattle.njh_request.specs.declared.order_key.OrderKey.{OrderKey}
use Rattle.njh_request.specs.declared.order_key.OrderKey.TheVariants as key
use Rattle.njh_request.specs.declared.refusal.RequestRefusal.{RequestRefusal}
use Rattle.njh_request.specs.declared.refusal.RequestRefusal.TheVariants.{NoResource, NoCustomer, NoLine}
use Rattle.njh_request.specs.declared.resource.Resource.{Resource}
use Rattle.njh_request.specs.declared.resource.Resource.TheVariants.{Status, Customers, Lines, Files, Orders}
use Rattle.njh_request.specs.declared.resource.Resource.TheVariants.{Messages, Outcome, Line, Stop, Reload, Diff}

-- ---- numbers

-- the number that digits say, behind others that say a number
abbrev pub value_behind : ℕ → List ℕ → ℕ
value_behind higher [] = higher
value_behind higher (digit ∷ digits) = value_behind (10 * higher + (digit - 48)) digits

abbrev pub is_number : List ℕ → Bool
is_number text = not (is_empty text) && (nat_le (length text) 18 && list_all (within 48 57) text)

-- 1 to 18 digits
abbrev pub number_in : List ℕ → Option ℕ
number_in text = cond (is_number text) (Some (value_behind 0 text)) None

abbrev pub key_by : Option ℕ → Option (List ℕ) → Option OrderKey
key_by (Some n) name = Some (key.Number n)
key_by None None = None
key_by None (Some name) = Some (key.Name name)

-- the number or the name of an order
abbrev pub key_of : List ℕ → Option OrderKey
key_of text = key_by (number_in text) (order_name_of text)

-- the place to go on from that stands behind a path: `from=128`; without one it is 0
abbrev pub place_in : Option (List ℕ) → Option ℕ
place_in None = Some 0
place_in (Some query) = cond (bytes_eq (take 5 query) (codes "from=")) (number_in (drop 5 query)) None

-- ---- paths

-- the number of the customer of a name
abbrev pub customer_of_name : TableFile → List ℕ → Option ℕ
customer_of_name tables name = position (λ c. bytes_eq name c.name) tables.customers

abbrev pub customer_named : TableFile → List ℕ → Option ℕ
customer_named tables word = option_and_then (customer_of_name tables) (result_ok (name_of_text word))

-- the parts of a path
abbrev pub parts_of : List ℕ → List (List ℕ)
parts_of path = slice_split (λ b. b == 47) path

-- the parts of what follows a stroke, or none if there was no stroke
abbrev pub parts_behind : Option (Bor (List ℕ)) → List (List ℕ)
parts_behind (Some behind) = parts_of behind.now
parts_behind None = []

-- what a path names, or who or what of it isn't there
abbrev pub Named : Type 0
Named = Result Resource RequestRefusal

-- status, customers, stop, reload, diff
abbrev pub resource_alone : List ℕ → Option Named
resource_alone word =
    if bytes_eq word (codes "status") then Some (Ok Status)
    else if bytes_eq word (codes "customers") then Some (Ok Customers)
    else if bytes_eq word (codes "stop") then Some (Ok Stop)
    else if bytes_eq word (codes "reload") then Some (Ok Reload)
    else if bytes_eq word (codes "diff") then Some (Ok Diff)
    else None

abbrev pub line_by : List ℕ → Option LineId → Named
line_by name None = Err (NoLine (quote_of name))
line_by name (Some id) = Ok (Line id)

-- orders/NUMBER or orders/NAME, lines/NAME
abbrev pub resource_named : TableFile → List ℕ → List ℕ → Option Named
resource_named tables word name =
    if bytes_eq word (codes "orders") then option_map (λ k. Ok (Outcome k)) (key_of name)
    else if bytes_eq word (codes "lines") then Some (line_by name (line_named tables name))
    else None

-- what of a customer: lines, files, orders, messages
abbrev pub resource_of_customer : List ℕ → ℕ → Option Named
resource_of_customer part c =
    if bytes_eq part (codes "lines") then Some (Ok (Lines c))
    else if bytes_eq part (codes "files") then Some (Ok (Files c))
    else if bytes_eq part (codes "orders") then Some (Ok (Orders c))
    else if bytes_eq part (codes "messages") then Some (Ok (Messages c))
    else None

abbrev pub customer_by : List ℕ → List ℕ → Option ℕ → Option Named
customer_by name part None = Some (Err (NoCustomer (quote_of name)))
customer_by name part (Some c) = resource_of_customer part c

-- customers/NAME and what of it
abbrev pub resource_below : TableFile → List ℕ → List ℕ → List ℕ → Option Named
resource_below tables word name part =
    if bytes_eq word (codes "customers") then customer_by name part (customer_named tables name) else None

-- the words behind /v1/
abbrev pub resource_of_words : TableFile → List (List ℕ) → Option Named
resource_of_words tables (word ∷ []) = resource_alone word
resource_of_words tables (word ∷ name ∷ []) = resource_named tables word name
resource_of_words tables (word ∷ name ∷ part ∷ []) = resource_below tables word name part
resource_of_words tables words = None

abbrev pub resource_of_version : TableFile → List (List ℕ) → Option Named
resource_of_version tables [] = None
resource_of_version tables (version ∷ words) =
    if bytes_eq version (codes "v1") then resource_of_words tables words else None

-- a path begins with a stroke
abbrev pub resource_of_parts : TableFile → List (List ℕ) → Option Named
resource_of_parts tables [] = None
resource_of_parts tables (front ∷ parts) = if is_empty front then resource_of_version tables parts else None

-- a path without escapes
abbrev pub resource_of : TableFile → List ℕ → Option Named
resource_of tables path = resource_of_parts tables (parts_of path)

-- what plain bytes name, if they are a text
abbrev pub resource_of_plain : TableFile → List ℕ → Option Named
resource_of_plain tables bytes = cond (is_utf8 bytes) (resource_of tables bytes) None

abbrev pub named_or_nothing : List ℕ → Option Named → Named
named_or_nothing path None = Err (NoResource (quote_of path))
named_or_nothing path (Some named) = named

-- as a request writes it
abbrev pub resource_at : TableFile → List ℕ → Named
resource_at tables path = named_or_nothing path (resource_of_plain tables (percent_decode path))
