-- The lines of a script that give a customer an order: `ORDER` a command in the name of a user, `TELL` a message to a
-- user.
use Rattle.std.specs.Prelude.{ℕ, ◌==◌, Bool, not, List, [], ◌∷◌, codes, length, map, nat_lt, if◌then◌else◌}
use Rattle.std.specs.Prelude.{Option, Some, None, option_and_then, Result, Ok, Err}
use Rattle.std.specs.List.{join_with_byte, list_all, slice_split}
use Rattle.std.specs.Option.{option_map}
use Rattle.std.specs.Result.{result_ok}
use Rattle.std.specs.Str.{bytes_eq, chars}
use Rattle.njh_ebcdic.specs.CodePage.{page_byte}
use Rattle.njh_ebcdic.specs.Reading.{name_of_text}
use Rattle.njh_ebcdic.specs.Users.{User}
use Rattle.njh_table.specs.TableFile.{TableFile}
use Rattle.njh_customer.specs.declared.given_order.GivenOrder.{GivenOrder}
use Rattle.njh_customer.specs.declared.given_order.GivenOrder.TheVariants as orders
use Rattle.njh_hub.specs.declared.event.Event.{Event}
use Rattle.njh_hub.specs.declared.event.Event.TheVariants.{Order}
use Rattle.njh_replay.specs.ScriptRoutes.{customer_named}
use Rattle.njh_replay.specs.declared.script_orders.OrderKind.{OrderKind}
use Rattle.njh_replay.specs.declared.script_orders.OrderKind.TheVariants.{Command, Message}
use Rattle.njh_replay.specs.declared.script_orders.TextFault.{TextFault}
use Rattle.njh_replay.specs.declared.script_orders.TextFault.TheVariants.{Empty, TooLong, NoCharacter}

-- what a word gives, if it is one of the two
abbrev pub order_kind : List ℕ → Option OrderKind
order_kind word =
    if bytes_eq word (codes "ORDER") then Some Command
    else if bytes_eq word (codes "TELL") then Some Message
    else None

-- how many characters the text of an order has at most: as many as a nodal message
abbrev pub longest_text : ℕ
longest_text = 148

-- whether a character has a byte: it has 0 if there is none
abbrev pub is_there : ℕ → Bool
is_there byte = not (byte == 0)

-- the bytes of characters that may be the text of an order, or the first thing that is wrong with them
abbrev pub checked_text : List ℕ → Result (List ℕ) TextFault
checked_text bytes =
    if length bytes == 0 then Err Empty
    else if nat_lt longest_text (length bytes) then Err TooLong
    else if list_all is_there bytes then Ok bytes
    else Err NoCharacter

-- a text in EBCDIC, capitals and small letters as they are
abbrev pub order_text : List ℕ → Result (List ℕ) TextFault
order_text text = checked_text (map page_byte (chars text))

-- what a word's full stops part
abbrev pub parts_of_user : List ℕ → List (List ℕ)
parts_of_user word = slice_split (λ b. b == 46) word

-- the user of two names, the node's first
abbrev pub user_by : (node user : List ℕ) → Option User
user_by node user =
    option_and_then (λ n. option_map (λ u. record { node = n; user = u }) (result_ok (name_of_text user)))
    (result_ok (name_of_text node))

abbrev pub user_of_parts : List (List ℕ) → Option User
user_of_parts (node ∷ user ∷ []) = user_by node user
user_of_parts parts = None

-- the user that a word names: a node, a full stop and the user there
abbrev pub user_named : List ℕ → Option User
user_named word = user_of_parts (parts_of_user word)

-- the order of a kind, by its user and its text
abbrev pub order_as : OrderKind → User → List ℕ → GivenOrder
order_as Command who text = orders.Command who text
order_as Message who text = orders.Message who text

-- the text that words are, with a blank between each two of them
abbrev pub text_of_words : List (List ℕ) → List ℕ
text_of_words words = join_with_byte 32 words

-- the order of the words after a customer's name: a user and a text
abbrev pub order_of_words : OrderKind → List (List ℕ) → Option GivenOrder
order_of_words kind [] = None
order_of_words kind (user ∷ words) = option_and_then
    (λ who. option_map (order_as kind who) (result_ok (order_text (text_of_words words)))) (user_named user)

-- the event of the words after `ORDER` or `TELL`: a customer's name, and what it is given
abbrev pub event_of_order : TableFile → OrderKind → List (List ℕ) → Option Event
event_of_order tables kind [] = None
event_of_order tables kind (name ∷ words) = option_and_then
    (λ c. option_map (λ order. Order c order) (order_of_words kind words)) (customer_named tables name)
