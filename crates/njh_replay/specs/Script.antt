-- The event script: lines of text, each of which has one event, on one line of the hub or for one customer.
use Rattle.std.specs.Prelude.{ℕ, ◌+◌, ◌==◌, ◌||◌, Bool, true, not, List, [], ◌∷◌, codes, if◌then◌else◌, Option, Some}
use Rattle.std.specs.Prelude.{None, is_some, option_and_then, Result, Ok, Err}
use Rattle.std.specs.List.{slice_split, position, filter_map}
use Rattle.std.specs.Option.{option_map}
use Rattle.std.specs.Str.{is_utf8, bytes_eq}
use Rattle.hex.specs.Hex.{decode_of}
use Rattle.hex.specs.declared.error.FromHexError.{FromHexError}
use Rattle.njh_table.specs.declared.LineId.{LineId}
use Rattle.njh_table.specs.TableFile.{TableFile, line_named}
use Rattle.njh_hub.specs.declared.event.Event.{Event}
use Rattle.njh_hub.specs.declared.event.Event.TheVariants.{Bytes, Tick, Garbled, Lost}
use Rattle.njh_io.specs.Lines.{lines_of}
use Rattle.njh_replay.specs.ScriptOrders.{event_of_order, order_kind}
use Rattle.njh_replay.specs.ScriptRoutes.{event_of_routes}
use Rattle.njh_replay.specs.declared.script_orders.OrderKind.{OrderKind}

-- how many bytes a script has at most: the product's own limit
abbrev pub max_script_bytes : ℕ
max_script_bytes = 1048576

-- the words of a line, which one blank parts
abbrev pub words_of : List ℕ → List (List ℕ)
words_of line = slice_split (λ b. b == 32) line

-- whether a line is skipped: an empty one, or a comment, which begins with `#` and may hold any bytes
abbrev pub is_skipped : List ℕ → Bool
is_skipped [] = true
is_skipped (b ∷ bs) = b == 35

-- the bytes, if there are any
abbrev pub some_bytes : Result (List ℕ) FromHexError → Option (List ℕ)
some_bytes (Ok []) = None
some_bytes (Ok (b ∷ bs)) = Some (b ∷ bs)
some_bytes (Err e) = None

-- what hex digits spell, two of either case for each byte, and at least one byte
abbrev pub piece_of : List ℕ → Option (List ℕ)
piece_of digits = some_bytes (decode_of digits)

-- the event of a word alone on a line of the hub
abbrev pub signal_of : List ℕ → LineId → Option Event
signal_of word id =
    if bytes_eq word (codes "TICK") then Some (Tick id)
    else if bytes_eq word (codes "GARBLED") then Some (Garbled id)
    else if bytes_eq word (codes "LOST") then Some (Lost id)
    else None

-- the event of `BYTES` with hex digits on a line of the hub
abbrev pub bytes_on : List ℕ → List ℕ → LineId → Option Event
bytes_on word digits id =
    if bytes_eq word (codes "BYTES") then option_map (λ piece. Bytes id piece) (piece_of digits) else None

-- the event of words on a line of the hub; names gives the line of a name
abbrev pub event_on_line : (List ℕ → Option LineId) → List (List ℕ) → Option Event
event_on_line names (word ∷ name ∷ []) = option_and_then (signal_of word) (names name)
event_on_line names (word ∷ name ∷ digits ∷ []) = option_and_then (bytes_on word digits) (names name)
event_on_line names words = None

-- the event of words that give no routes, by the kind of order that the first one gives
abbrev pub event_by_kind : TableFile → Option OrderKind → (word : List ℕ) → List (List ℕ) → Option Event
event_by_kind tables (Some kind) word words = event_of_order tables kind words
event_by_kind tables None word words = event_on_line (line_named tables) (word ∷ words)

-- the event of words, which give a customer routes or an order, or tell what comes on a line
abbrev pub event_of_words : TableFile → List (List ℕ) → Option Event
event_of_words tables [] = None
event_of_words tables (word ∷ words) =
    if bytes_eq word (codes "ROUTES") then event_of_routes tables words
    else event_by_kind tables (order_kind word) word words

-- the event of a line, which is UTF-8
unfoldable pub script_event : TableFile → List ℕ → Option Event
script_event tables line = if is_utf8 line then event_of_words tables (words_of line) else None

-- whether a line may be in a script: it is skipped or has an event
unfoldable pub can_stand : TableFile → List ℕ → Bool
can_stand tables line = is_skipped line || is_some (script_event tables line)

-- the event of a line that isn't skipped, if it has one
unfoldable pub event_in : TableFile → List ℕ → Option Event
event_in tables line = if is_skipped line then None else script_event tables line

-- the events of the lines, in order
abbrev pub script_events : TableFile → List (List ℕ) → List Event
script_events tables lines = filter_map (event_in tables) lines

-- the number of the first line that may not be in a script; the first line is 1
abbrev pub first_bad : TableFile → List (List ℕ) → Option ℕ
first_bad tables lines = option_map (λ place. place + 1) (position (λ line. not (can_stand tables line)) lines)

-- what a script comes to: its events, or the number of the first bad line
abbrev pub events_or_bad : Option ℕ → List Event → Result (List Event) ℕ
events_or_bad None events = Ok events
events_or_bad (Some number) events = Err number

abbrev pub script_of_lines : TableFile → List (List ℕ) → Result (List Event) ℕ
script_of_lines tables lines = events_or_bad (first_bad tables lines) (script_events tables lines)

abbrev pub script_of : TableFile → List ℕ → Result (List Event) ℕ
script_of tables text = script_of_lines tables (lines_of text)
