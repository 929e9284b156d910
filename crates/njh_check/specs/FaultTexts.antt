-- The text of a fault with its place: its name, the part of the file, the key, and what is wrong.
use Rattle.std.specs.Prelude.{◌≡◌, ℕ, ◌+◌, ◌≤◌, ◌==◌, List, [], length, take, count_by, codes, Option, Some, None}
use Rattle.std.specs.Prelude.{option_and_then, MatchOption}
use Rattle.std.specs.Fmt.{decimal}
use Rattle.toml.specs.Data.{Members, as_str}
use Rattle.toml.specs.Parse.{parse_document}
use Rattle.njh_table.specs.declared.fault.TableFault.{TableFault}
use Rattle.njh_table.specs.declared.fault.TableFault.TheVariants as faults
use Rattle.njh_table.specs.declared.places.Key.{Key}
use Rattle.njh_table.specs.declared.places.Key.TheVariants as named
use Rattle.njh_table.specs.declared.places.Part.{Part}
use Rattle.njh_table.specs.declared.places.Part.TheVariants as parts
use Rattle.njh_table.specs.declared.places.PlacedFault.{PlacedFault}
use Rattle.njh_table.specs.Places.{key_name}
use Rattle.njh_check.specs.Elements.{value_at}
use Rattle.njh_check.specs.Reasons.{reason_words}
use Rattle.njh_check.specs.Words.{◌+++◌, numbered}

unfoldable pub fault_name : TableFault → List ℕ
fault_name faults.BadToml = codes "K1 BadToml"
fault_name faults.MissingKey = codes "K2 MissingKey"
fault_name faults.BadValue = codes "K3 BadValue"
fault_name faults.DoubleLine = codes "K4 DoubleLine"
fault_name faults.DoubleNode = codes "K5 DoubleNode"
fault_name faults.UnknownLine = codes "K6 UnknownLine"
fault_name faults.QuotaOver = codes "K7 QuotaOver"
fault_name faults.TooMany = codes "K8 TooMany"
fault_name faults.Memory = codes "K9 Memory"

-- the text at a key of a part, if there is one
unfoldable pub text_at : Part → Key → Members → Option (List ℕ)
text_at part key document = option_and_then as_str (value_at part (Some key) document)

unfoldable pub customer_words : ℕ → Members → List ℕ
customer_words c document = numbered (codes "customer") c (text_at (parts.Customer c) named.Name document)

-- a part of the file: numbers count from 1 on, and a name is beside each if it is known
unfoldable pub part_words : Part → Members → List ℕ
part_words parts.File document = codes "the file"
part_words (parts.Customer c) document = customer_words c document
part_words (parts.Line c n) document =
    customer_words c document +++ codes ", "
    +++ numbered (codes "line") n (text_at (parts.Line c n) named.Name document)
part_words (parts.Route c n) document =
    customer_words c document +++ codes ", "
    +++ numbered (codes "route") n (text_at (parts.Route c n) named.Node document)

-- the key; one that is missing is told with the reason
unfoldable pub key_words : TableFault → Option Key → List ℕ
key_words faults.MissingKey key = []
key_words fault None = []
key_words fault (Some key) = codes ", " +++ key_name key

-- the fault of a document
unfoldable pub fault_words : Members → PlacedFault → List ℕ
fault_words document placed =
    fault_name placed.fault +++ codes ": " +++ part_words placed.part document +++ key_words placed.fault placed.key
    +++ codes ": "
    +++ reason_words placed.fault document placed.part placed.key (value_at placed.part placed.key document)

-- how many lines end in a text
abbrev pub line_ends : List ℕ → ℕ
line_ends text = count_by (λ byte. byte == 10) text

-- the number of the line, from 1 on, in which a place of a text is
unfoldable pub line_at : List ℕ → ℕ → ℕ
line_at text place = line_ends (take place text) + 1

-- a text that is no TOML, which shows in a line of this number
unfoldable pub toml_words : ℕ → List ℕ
toml_words line = codes "K1 BadToml: line " +++ decimal line +++ codes ": no TOML"

-- what is told of a fault of a text. Of a text that is no TOML a line of it is told, counted from 1 on; no definition
-- says in which that shows.
abbrev pub IsFaultText : List ℕ → PlacedFault → List ℕ → Type 0
IsFaultText text placed told =
    MatchOption (parse_document text) ((place : ℕ) × (place ≤ length text) × (told ≡ toml_words (line_at text place)))
    (λ document. told ≡ fault_words document placed)
