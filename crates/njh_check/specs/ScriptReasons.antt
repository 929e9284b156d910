-- Why a line of a script has no event: the first thing that is wrong with it, from its left to its right.
use Rattle.std.specs.Prelude.{ℕ, ◌||◌, Bool, List, [], ◌∷◌, codes, if◌then◌else◌, Option, Some, None, is_some}
use Rattle.std.specs.Prelude.{Result, Ok, Err}
use Rattle.std.specs.Str.{is_utf8, bytes_eq}
use Rattle.hex.specs.Hex.{decode_of}
use Rattle.hex.specs.declared.error.FromHexError.{FromHexError}
use Rattle.hex.specs.declared.error.FromHexError.TheVariants.{InvalidHexCharacter}
use Rattle.njh_ebcdic.specs.Reading.{name_of_text}
use Rattle.njh_table.specs.declared.fault.TableFault.{TableFault}
use Rattle.njh_table.specs.declared.new_routes.GivenRoute.{GivenRoute}
use Rattle.njh_table.specs.NewRoutes.{new_routes_of, routes_checked}
use Rattle.njh_table.specs.TableFile.{TableFile, customer_at, entry_of, line_named}
use Rattle.njh_replay.specs.Script.{words_of}
use Rattle.njh_replay.specs.ScriptOrders.{order_kind, order_text, parts_of_user, text_of_words}
use Rattle.njh_replay.specs.ScriptRoutes.{customer_named, parts_of_pair, routes_of_pairs}
use Rattle.njh_replay.specs.declared.script_orders.OrderKind.{OrderKind}
use Rattle.njh_replay.specs.declared.script_orders.TextFault.{TextFault}
use Rattle.njh_check.specs.declared.script_reason.BadLine.{BadLine}
use Rattle.njh_check.specs.declared.script_reason.ScriptReason.{ScriptReason}
use Rattle.njh_check.specs.declared.script_reason.ScriptReason.TheVariants.{BadDigit, BadNode, BadUser, MoreLines}
use Rattle.njh_check.specs.declared.script_reason.ScriptReason.TheVariants.{MoreWords, NoBytes, NoColon, NoCustomer}
use Rattle.njh_check.specs.declared.script_reason.ScriptReason.TheVariants.{NoCustomerName, NoEvent, NoLine, NoName}
use Rattle.njh_check.specs.declared.script_reason.ScriptReason.TheVariants.{NotText, NoUser, NoUserName, OddDigits}
use Rattle.njh_check.specs.declared.script_reason.ScriptReason.TheVariants.{Routes, Text}

-- a reason, and the word that it is about, which is empty if it is about none alone
abbrev pub Told : Type 0
Told = ScriptReason × List ℕ

abbrev pub told : BadLine → Told
told bad = (bad.why, bad.word.now)

-- what is wrong with hex digits, by what they spell: there are to be some
abbrev pub reason_of_bytes : Result (List ℕ) FromHexError → Option Told
reason_of_bytes (Ok []) = Some (NoBytes, [])
reason_of_bytes (Ok (b ∷ bs)) = None
reason_of_bytes (Err (InvalidHexCharacter c index)) = Some (BadDigit index, [])
reason_of_bytes (Err fault) = Some (OddDigits, [])

-- the words of an event on a line: three that have a line's name alone after them, and `BYTES` with digits after it
abbrev pub is_bytes : List ℕ → Bool
is_bytes word = bytes_eq word (codes "BYTES")

abbrev pub is_event : List ℕ → Bool
is_event word = bytes_eq word (codes "TICK") || bytes_eq word (codes "GARBLED") || bytes_eq word (codes "LOST")
    || is_bytes word

-- what is wrong with the words after a line's name
abbrev pub reason_behind : (word : List ℕ) → List (List ℕ) → Option Told
reason_behind word [] = if is_bytes word then Some (NoBytes, []) else None
reason_behind word (digits ∷ []) =
    if is_bytes word then reason_of_bytes (decode_of digits) else Some (MoreWords, [])
reason_behind word words = Some (MoreWords, [])

-- what is wrong with the words after an event's word
abbrev pub reason_on_line : TableFile → (word : List ℕ) → List (List ℕ) → Option Told
reason_on_line tables word [] = Some (NoName, [])
reason_on_line tables word (name ∷ words) =
    if is_some (line_named tables name) then reason_behind word words else Some (NoLine, name)

-- what is wrong with a route by the names of its lines, of which the second may be missing
abbrev pub reason_of_second : TableFile → Option (List ℕ) → Option Told
reason_of_second tables None = None
reason_of_second tables (Some second) = if is_some (line_named tables second) then None else Some (NoLine, second)

abbrev pub reason_of_lines : TableFile → (line : List ℕ) → (second : Option (List ℕ)) → Option Told
reason_of_lines tables line second =
    if is_some (line_named tables line) then reason_of_second tables second else Some (NoLine, line)

-- what is wrong with a node, and then with the names of its lines
abbrev pub reason_by : TableFile → (node line : List ℕ) → (second : Option (List ℕ)) → Option Told
reason_by tables node line second =
    elim (name_of_text node) [ Ok name ↦ reason_of_lines tables line second | Err fault ↦ Some (BadNode, node) ]

-- what is wrong with a pair, by its parts
abbrev pub reason_of_parts : TableFile → (pair : List ℕ) → List (List ℕ) → Option Told
reason_of_parts tables pair (node ∷ line ∷ []) = reason_by tables node line None
reason_of_parts tables pair (node ∷ line ∷ second ∷ []) = reason_by tables node line (Some second)
reason_of_parts tables pair (node ∷ line ∷ second ∷ more) = Some (MoreLines, pair)
reason_of_parts tables pair parts = Some (NoColon, pair)

abbrev pub reason_of_pair : TableFile → List ℕ → Option Told
reason_of_pair tables pair = reason_of_parts tables pair (parts_of_pair pair)

-- what is wrong with the first pair that is no route
abbrev pub first_told : Option Told → Option Told → Option Told
first_told None later = later
first_told (Some t) later = Some t

abbrev pub reason_of_pairs : TableFile → List (List ℕ) → Option Told
reason_of_pairs tables [] = None
reason_of_pairs tables (pair ∷ pairs) = first_told (reason_of_pair tables pair) (reason_of_pairs tables pairs)

-- what is wrong with routes for a customer, by what its entry says of them
abbrev pub reason_of_check : Result (Unit {0}) TableFault → Option Told
reason_of_check (Ok x) = None
reason_of_check (Err fault) = Some (Routes fault, [])

-- what is wrong with pairs for a customer: one of them, or else all together
abbrev pub reason_of_given : TableFile → (pairs : List (List ℕ)) → (customer : ℕ) → Option (List GivenRoute)
    → Option Told
reason_of_given tables pairs customer None = reason_of_pairs tables pairs
reason_of_given tables pairs customer (Some routes) =
    reason_of_check (routes_checked (entry_of (customer_at tables customer)) (new_routes_of customer routes))

-- what is wrong with the words after `ROUTES`
abbrev pub reason_of_routes : TableFile → List (List ℕ) → Option Told
reason_of_routes tables [] = Some (NoCustomerName, [])
reason_of_routes tables (name ∷ pairs) = elim (customer_named tables name) [
  | None ↦ Some (NoCustomer, name)
  | Some customer ↦ reason_of_given tables pairs customer (routes_of_pairs tables pairs)
]

-- what is wrong with the text of an order
abbrev pub reason_of_text : Result (List ℕ) TextFault → Option Told
reason_of_text (Ok bytes) = None
reason_of_text (Err fault) = Some (Text fault, [])

-- what is wrong with a user's name at a node, and then with the text
abbrev pub reason_of_user : (user text : List ℕ) → Option Told
reason_of_user user text =
    elim (name_of_text user) [ Ok name ↦ reason_of_text (order_text text) | Err fault ↦ Some (BadUser, user) ]

-- what is wrong with the names of a node and of a user there, and then with the text
abbrev pub reason_of_ends : (node user text : List ℕ) → Option Told
reason_of_ends node user text =
    elim (name_of_text node) [ Ok name ↦ reason_of_user user text | Err fault ↦ Some (BadNode, node) ]

-- what is wrong with a user's word, by its parts, and then with the text
abbrev pub reason_of_user_parts : (word : List ℕ) → List (List ℕ) → (text : List ℕ) → Option Told
reason_of_user_parts word (node ∷ user ∷ []) text = reason_of_ends node user text
reason_of_user_parts word parts text = Some (NoUser, word)

-- what is wrong with the words after a customer's name
abbrev pub reason_of_order_words : List (List ℕ) → Option Told
reason_of_order_words [] = Some (NoUserName, [])
reason_of_order_words (user ∷ words) = reason_of_user_parts user (parts_of_user user) (text_of_words words)

-- what is wrong with the words after `ORDER` or `TELL`
abbrev pub reason_of_order : TableFile → List (List ℕ) → Option Told
reason_of_order tables [] = Some (NoCustomerName, [])
reason_of_order tables (name ∷ words) =
    if is_some (customer_named tables name) then reason_of_order_words words else Some (NoCustomer, name)

-- what is wrong with the words of a line that gives no order
abbrev pub reason_of_other : TableFile → (word : List ℕ) → List (List ℕ) → Option Told
reason_of_other tables word words =
    if is_event word then reason_on_line tables word words else Some (NoEvent, word)

-- what is wrong with the words of a line that gives no routes, by the kind of order that the first one gives
abbrev pub reason_by_kind : TableFile → Option OrderKind → (word : List ℕ) → List (List ℕ) → Option Told
reason_by_kind tables (Some kind) word words = reason_of_order tables words
reason_by_kind tables None word words = reason_of_other tables word words

-- what is wrong with the words of a line
abbrev pub reason_of_words : TableFile → List (List ℕ) → Option Told
reason_of_words tables [] = Some (NoEvent, [])
reason_of_words tables (word ∷ words) =
    if bytes_eq word (codes "ROUTES") then reason_of_routes tables words
    else reason_by_kind tables (order_kind word) word words

-- what is wrong with a line that isn't skipped, if anything is
unfoldable pub reason_of : TableFile → List ℕ → Option Told
reason_of tables line = if is_utf8 line then reason_of_words tables (words_of line) else Some (NotText, [])
