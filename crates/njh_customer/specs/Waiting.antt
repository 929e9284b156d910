-- What waits on a customer's lines: answers to the peers, and nodal messages, which go by the routes of their nodes.
use Rattle.std.specs.Prelude.{ℕ, List, [], ◌∷◌, Option, Some, None}
use Rattle.njh_ebcdic.specs.Users.{User}
use Rattle.njh_block.specs.declared.answer.Answer.{Answer}
use Rattle.njh_nmr.specs.Nodal.{notice_record}
use Rattle.njh_table.specs.Entries.{CustomerEntry, route_of}
use Rattle.njh_table.specs.declared.Route.{Route}
use Rattle.njh_table.specs.declared.Route.TheVariants.{Here, Line, Unknown}
use Rattle.njh_stream.specs.Receiving.{Notice}
use Rattle.njh_line.specs.Lines.{with_answer, with_message}
use Rattle.njh_customer.specs.Customer.{CustomerLine, on_line, in_state}

-- an answer waits on a line
abbrev pub with_answer_on : ℕ → Option Answer → List CustomerLine → List CustomerLine
with_answer_on l None lines = lines
with_answer_on l (Some a) lines = on_line l (in_state (with_answer a)) lines

-- a nodal message waits on a line
abbrev pub with_waiting : ℕ → List ℕ → List CustomerLine → List CustomerLine
with_waiting l m lines = on_line l (in_state (with_message m)) lines

-- a nodal message goes by a route, and is dropped if that is no line
abbrev pub goes : Route → List ℕ → List CustomerLine → List CustomerLine
goes Here m lines = lines
goes (Line k) m lines = with_waiting k m lines
goes Unknown m lines = lines

-- what the hub says to a user at a node
abbrev pub with_message_to : CustomerEntry → User → List ℕ → List CustomerLine → List CustomerLine
with_message_to entry whom text lines = goes (route_of entry whom.node) (notice_record entry.hub whom text) lines

abbrev pub all_said : CustomerEntry → User → List (List ℕ) → List CustomerLine → List CustomerLine
all_said entry whom [] lines = lines
all_said entry whom (t ∷ ts) lines = all_said entry whom ts (with_message_to entry whom t lines)

abbrev pub with_notice_to : CustomerEntry → Option Notice → List CustomerLine → List CustomerLine
with_notice_to entry None lines = lines
with_notice_to entry (Some n) lines = with_message_to entry n.whom n.text lines
