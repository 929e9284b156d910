-- What was ordered, and what came of it; what is told of an order: what it answered, or why it wasn't carried out.
use Rattle.std.specs.Prelude.{ℕ, ◌==◌, Bool, false, List, [], ◌∷◌, map, find, flat_map, codes, bytes_eq}
use Rattle.std.specs.Prelude.{Option, Some, None, Result, Ok, Err, encode_utf8, string_bytes, String}
use Rattle.std.specs.declared.alloc.Global.{Global}
use Rattle.serde_json.specs.Data.{Data, null, number, unsigned, string, array, object, member, no_members}
use Rattle.serde_json.specs.View.{items_of, view}
use Rattle.serde_json.specs.declared.value.Value.{Value}
use Rattle.njh_ebcdic.specs.Characters.{shown_text}
use Rattle.njh_request.specs.declared.order_key.OrderKey.{OrderKey}
use Rattle.njh_request.specs.declared.order_key.OrderKey.TheVariants as key
use Rattle.njh_request.specs.declared.refusal.RequestRefusal.{RequestRefusal}
use Rattle.njh_request.specs.declared.refusal.RequestRefusal.TheVariants as refusal
use Rattle.njh_answer.specs.Fields.{name_text}
use Rattle.njh_answer.specs.declared.orders.OrderRecord.{OrderRecord}
use Rattle.njh_answer.specs.declared.orders.Outcome.{Outcome}
use Rattle.njh_answer.specs.declared.orders.Outcome.TheVariants.{Done, NotKept, Read, Unread, NoWay}
use Rattle.njh_answer.specs.declared.orders.Outcome.TheVariants.{QueueFull, TooLate, GiverGone}
use Rattle.njh_answer.specs.declared.ticket.Ticket.{Ticket}

abbrev pub viewed : Result Value RequestRefusal → Result Data RequestRefusal
viewed (Ok value) = Ok (view value)
viewed (Err r) = Err r

-- ---- the order of a number or a name

abbrev pub is_numbered : ℕ → OrderRecord → Bool
is_numbered n order = order.ticket.number == n

abbrev pub is_named : List ℕ → Option (List ℕ) → Bool
is_named name None = false
is_named name (Some other) = bytes_eq name other

abbrev pub is_called : List ℕ → OrderRecord → Bool
is_called name order = is_named name order.ticket.terms.name

-- of those that are remembered
abbrev pub order_by : OrderKey → List OrderRecord → Option OrderRecord
order_by (key.Number n) orders = find (is_numbered n) orders
order_by (key.Name name) orders = find (is_called name) orders

-- ---- what is told of it

-- a reply, as it is read
abbrev pub reply_text : List ℕ → List ℕ
reply_text reply = flat_map encode_utf8 (shown_text reply)

abbrev pub reply_data : List ℕ → Data
reply_data reply = string (reply_text reply)

abbrev pub whose_data : Option (List ℕ) → Data
whose_data None = null
whose_data (Some name) = string (name_text name)

-- a sentence, as it is
abbrev pub text_data : String Global → Data
text_data text = string (string_bytes text)

-- {"customer":"ACME","order":7,"replies":["NJH003 LYON.42 HELD 1"]}
abbrev pub done_data : Ticket → List Data → Data
done_data ticket replies = object (
    member (codes "customer") (whose_data ticket.customer)
    (member (codes "order") (number (unsigned ticket.number))
    (member (codes "replies") (array (items_of replies)) no_members)))

abbrev pub told_by : Ticket → Outcome → Result Data RequestRefusal
told_by ticket (Done replies) = Ok (done_data ticket (map reply_data replies.items))
told_by ticket (Read texts) = Ok (done_data ticket (map text_data texts.items))
told_by ticket (Unread fault) = Ok (done_data ticket (text_data fault ∷ []))
told_by ticket NotKept = Err refusal.NotKept
told_by ticket NoWay = Err refusal.NoWay
told_by ticket QueueFull = Err refusal.QueueFull
told_by ticket TooLate = Err refusal.TooLate
told_by ticket GiverGone = Err refusal.GiverGone

abbrev pub outcome_told : OrderKey → Option OrderRecord → Result Data RequestRefusal
outcome_told k None = Err (refusal.NoOrder k)
outcome_told k (Some order) = told_by order.ticket order.outcome
