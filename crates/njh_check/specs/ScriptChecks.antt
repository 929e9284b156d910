-- What the check of a script says.
use Rattle.std.specs.Prelude.{ℕ, ◌-◌, ◌==◌, Bool, false, List, [], ◌∷◌, ◌++◌, codes, length, map, nat_lt}
use Rattle.std.specs.Prelude.{Option, Some, None, Result, Ok, Err, get_or, is_ok, if◌then◌else◌}
use Rattle.std.specs.Fmt.{decimal}
use Rattle.njh_hub.specs.declared.event.Event.{Event}
use Rattle.njh_table.specs.TableFile.{TableFile}
use Rattle.njh_check.specs.FaultTexts.{fault_name}
use Rattle.njh_check.specs.ScriptReasons.{Told, reason_of}
use Rattle.njh_io.specs.Lines.{lines_of}
use Rattle.njh_replay.specs.Script.{max_script_bytes, script_of}
use Rattle.njh_replay.specs.declared.script_orders.TextFault.{TextFault}
use Rattle.njh_replay.specs.declared.script_orders.TextFault.TheVariants.{Empty, TooLong, NoCharacter}
use Rattle.njh_check.specs.declared.script_reason.ScriptReason.{ScriptReason}
use Rattle.njh_check.specs.declared.script_reason.ScriptReason.TheVariants.{BadDigit, BadNode, BadUser, MoreLines}
use Rattle.njh_check.specs.declared.script_reason.ScriptReason.TheVariants.{MoreWords, NoBytes, NoColon, NoCustomer}
use Rattle.njh_check.specs.declared.script_reason.ScriptReason.TheVariants.{NoCustomerName, NoEvent, NoLine, NoName}
use Rattle.njh_check.specs.declared.script_reason.ScriptReason.TheVariants.{NotText, NoUser, NoUserName, OddDigits}
use Rattle.njh_check.specs.declared.script_reason.ScriptReason.TheVariants.{Routes, Text}

-- words as they are, kept whole
unfoldable pub label : List ℕ → List ℕ
label words = words

-- what is wrong with the text of an order
abbrev pub text_fault_words : TextFault → List ℕ
text_fault_words Empty = label (codes "no text")
text_fault_words TooLong = label (codes "more than 148 characters")
text_fault_words NoCharacter = label (codes "a character that EBCDIC lacks")

-- why a line is bad, but for the word that is
abbrev pub why_words : ScriptReason → List ℕ
why_words NotText = label (codes "not UTF-8")
why_words NoEvent = label (codes "no event ")
why_words NoName = label (codes "no line is named")
why_words NoLine = label (codes "no line ")
why_words MoreWords = label (codes "more words than the event has")
why_words NoBytes = label (codes "no bytes")
why_words OddDigits = label (codes "an odd number of hex digits")
why_words (BadDigit index) = label (codes "no hex digit behind the first ") ++ decimal index
why_words NoCustomerName = label (codes "no customer is named")
why_words NoCustomer = label (codes "no customer ")
why_words NoColon = label (codes "no colon in ")
why_words BadNode = label (codes "no node's name is ")
why_words MoreLines = label (codes "more than two lines in ")
why_words NoUserName = label (codes "no user is named")
why_words NoUser = label (codes "no node and user in ")
why_words BadUser = label (codes "no user's name is ")
why_words (Text fault) = text_fault_words fault
why_words (Routes fault) = label (codes "routes: ") ++ label (fault_name fault)

-- a word, with `?` for each byte that would move a terminal
abbrev pub shown_byte : ℕ → ℕ
shown_byte b = if nat_lt b 32 then 63 else b

abbrev pub shown_word : List ℕ → List ℕ
shown_word word = map shown_byte word

abbrev pub told_words : Option Told → List ℕ
told_words None = []
told_words (Some t) = why_words t.0 ++ shown_word t.1

-- a bad line by its number, counted from 1, and why it is bad
unfoldable pub bad_words : (number : ℕ) → Option Told → List ℕ
bad_words number reason =
    label (codes "line ") ++ decimal number ++ label (codes ": ") ++ told_words reason ++ 10 ∷ []

-- a script without a bad line, by the number of its events
unfoldable pub right_words : (events : ℕ) → List ℕ
right_words events = label (codes "script: ") ++ decimal events
    ++ label (if events == 1 then codes " event, no bad line\n" else codes " events, no bad line\n")

-- a script that is too long
abbrev pub long_words : List ℕ
long_words = codes "script: more than 1048576 bytes\n"

-- the line of a number, counted from 1
abbrev pub line_at : (number : ℕ) → (text : List ℕ) → List ℕ
line_at number text = get_or (lines_of text) (number - 1) []

-- what is said of a script that isn't too long, by what it comes to
abbrev pub found_words : TableFile → (text : List ℕ) → Result (List Event) ℕ → List ℕ
found_words tables text (Ok events) = right_words (length events)
found_words tables text (Err number) = bad_words number (reason_of tables (line_at number text))

-- what is said of a script, and whether it is right
abbrev pub check_words : TableFile → (text : List ℕ) → List ℕ
check_words tables text =
    if nat_lt max_script_bytes (length text) then long_words else found_words tables text (script_of tables text)

abbrev pub is_right : TableFile → (text : List ℕ) → Bool
is_right tables text = if nat_lt max_script_bytes (length text) then false else is_ok (script_of tables text)
