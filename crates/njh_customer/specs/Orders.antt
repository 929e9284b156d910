-- What the bureau's operator orders for a customer: a command in the name of a user, or a message to a user.
use Rattle.std.specs.Prelude.{ℕ, Bool, true, false, List, [], fold}
use Rattle.njh_ebcdic.specs.Users.{User}
use Rattle.njh_nmr.specs.Nodal.{notice_record}
use Rattle.njh_line.specs.Lines.{has_message_room}
use Rattle.njh_table.specs.Entries.{CustomerEntry, route_of}
use Rattle.njh_table.specs.declared.Route.{Route}
use Rattle.njh_table.specs.declared.Route.TheVariants.{Here, Line, Unknown}
use Rattle.njh_command.specs.Commands.{CommandOutcome, message_outcome, spool_after}
use Rattle.njh_customer.specs.Acting.{without_sending}
use Rattle.njh_customer.specs.Customer.{Customer, CustomerLine, line_at}
use Rattle.njh_customer.specs.Part.{Part}
use Rattle.njh_customer.specs.Waiting.{with_message_to}
use Rattle.njh_customer.specs.declared.given_order.GivenOrder.{GivenOrder}
use Rattle.njh_customer.specs.declared.given_order.GivenOrder.TheVariants.{Command, Message}

-- What a command leaves: its files, and the streams of those that were cancelled give them up. No reply waits on a
-- line.
abbrev pub with_command : CommandOutcome → Customer → Customer
with_command done c = record c {
  spool = spool_after done c.spool;
  lines = fold without_sending c.lines done.cancelled;
}

-- A command does to the files what it does that comes on a line from that user. A message waits on the line that its
-- node goes by, as what the hub says to a user; it is dropped if that is no line.
abbrev pub customer_after_order : GivenOrder → Customer → Customer
customer_after_order (Command owner text) c = with_command (message_outcome c.entry owner text c.spool) c
customer_after_order (Message whom text) c = record c { lines = with_message_to c.entry whom text c.lines }

-- and of no line what has come of its next frame
abbrev pub part_after_order : GivenOrder → Part → Part
part_after_order order p = record p { customer = customer_after_order order p.customer }

-- what is answered: the replies to a command
abbrev pub replies_to : GivenOrder → Customer → List (List ℕ)
replies_to (Command owner text) c = (message_outcome c.entry owner text c.spool).replies
replies_to (Message whom text) c = []

-- the record by which a message to a user waits on a line
abbrev pub message_record : CustomerEntry → User → List ℕ → List ℕ
message_record entry whom text = notice_record entry.hub whom text

-- ---- which messages have a way

abbrev pub leads_to_line : Route → Bool
leads_to_line Here = false
leads_to_line (Line l) = true
leads_to_line Unknown = false

-- a command needs none
abbrev pub has_way : CustomerEntry → GivenOrder → Bool
has_way entry (Command owner text) = true
has_way entry (Message whom text) = leads_to_line (route_of entry whom.node)

-- ---- which messages have room

-- The queue of the line that a route is has room. A message that goes by no line needs none.
abbrev pub has_room_by : Route → List CustomerLine → Bool
has_room_by Here lines = true
has_room_by (Line l) lines = has_message_room (line_at l lines).state
has_room_by Unknown lines = true

-- a command needs none
abbrev pub has_room : CustomerEntry → List CustomerLine → GivenOrder → Bool
has_room entry lines (Command owner text) = true
has_room entry lines (Message whom text) = has_room_by (route_of entry whom.node) lines
