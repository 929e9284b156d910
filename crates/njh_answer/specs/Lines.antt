-- What is told of a customer's lines: each of the tables', by its own line of the hub, and as the service knows it.
use Rattle.std.specs.Prelude.{ℕ, ◌-◌, ◌==◌, ◌&&◌, Bool, true, false, List, [], length, map, find, codes}
use Rattle.std.specs.Prelude.{slice_get, slice_index_or}
use Rattle.std.specs.Prelude.{string_bytes, Option, Some, None}
use Rattle.std.specs.List.{range_with_len}
use Rattle.serde_json.specs.Data.{Data, null, number, unsigned, string, array, object, member, no_members}
use Rattle.serde_json.specs.View.{items_of}
use Rattle.njh_line.specs.declared.Phase.{Phase}
use Rattle.njh_line.specs.declared.Phase.TheVariants.{Down, Calling, Answered, SentI, Up}
use Rattle.njh_spool.specs.CustomerSpool.{CustomerSpool, WholeFile, whole_numbered}
use Rattle.njh_stream.specs.SpoolFiles.{records_in}
use Rattle.njh_stream.specs.declared.receiver.Receiver.{Receiver}
use Rattle.njh_stream.specs.declared.receiver.Receiver.TheVariants as receiver
use Rattle.njh_stream.specs.declared.sender.Sender.{Sender}
use Rattle.njh_stream.specs.declared.sender.Sender.TheVariants as sender
use Rattle.njh_table.specs.declared.LineId.{LineId}
use Rattle.njh_table.specs.declared.Role.{Role}
use Rattle.njh_table.specs.declared.Role.TheVariants.{Call, Answer}
use Rattle.njh_table.specs.declared.Protocol.{Protocol}
use Rattle.njh_table.specs.declared.Protocol.TheVariants.{Bisync, Tcp}
use Rattle.njh_table.specs.TableFile.{NamedCustomer, NamedLine, no_line}
use Rattle.njh_customer.specs.Customer.{CustomerLine}
use Rattle.njh_hub.specs.Files.{said_name}
use Rattle.njh_hub.specs.Views.{line_view}
use Rattle.njh_hub.specs.WholeHub.{Part}
use Rattle.njh_hub.specs.declared.session_view.SessionView.{SessionView}
use Rattle.njh_answer.specs.Addresses.{guest_data, peer_data, refused_data}
use Rattle.njh_answer.specs.Counts.{counts_data}
use Rattle.njh_answer.specs.Fields.{file_name_text, name_text}
use Rattle.njh_answer.specs.Members.{with_member}
use Rattle.njh_answer.specs.Pages.{next_data, page_of}
use Rattle.njh_answer.specs.Queues.{queue_where}
use Rattle.njh_answer.specs.Troubles.{moment_data, moment_number, trouble_where}
use Rattle.njh_answer.specs.declared.page.Page.{Page}
use Rattle.njh_request.specs.declared.request.LineState.{LineState}
use Rattle.njh_request.specs.declared.request.LineState.TheVariants.{Started, Draining, Stopped}
use Rattle.njh_answer.specs.declared.views.LineView.{LineView}

-- how many lines an answer has at most
abbrev pub lines_told : ℕ
lines_told = 4

-- ---- its session

abbrev pub phase_text : Phase → List ℕ
phase_text Down = codes "down"
phase_text Calling = codes "calling"
phase_text Answered = codes "answered"
phase_text SentI = codes "signing on"
phase_text Up = codes "up"

-- only a session that is up has turns
abbrev pub turn_text : Phase → Bool → List ℕ
turn_text Up true = codes "hub"
turn_text Up false = codes "peer"
turn_text Down has_turn = codes "nobody"
turn_text Calling has_turn = codes "nobody"
turn_text Answered has_turn = codes "nobody"
turn_text SentI has_turn = codes "nobody"

abbrev pub role_text : Role → List ℕ
role_text Call = codes "calls"
role_text Answer = codes "answers"

abbrev pub protocol_text : Protocol → List ℕ
protocol_text Bisync = codes "bisync"
protocol_text Tcp = codes "tcp"

abbrev pub session_data : SessionView → Data
session_data s = object (
    member (codes "phase") (string (phase_text s.phase))
    (member (codes "refusals") (number (unsigned s.refusals))
    (member (codes "tries") (number (unsigned s.tries))
    (member (codes "turn") (string (turn_text s.phase s.has_turn)) no_members))))

-- The customer's line of a number, where it has one. A hub of these tables has each of theirs; of another hub nothing
-- is told of the session and the streams of a line that it lacks.
abbrev pub line_where : ℕ → Part → Option CustomerLine
line_where index p = slice_get p.customer.lines index

abbrev pub session_where : Option CustomerLine → Data
session_where None = null
session_where (Some line) = session_data (line_view line.state)

-- how many nodal messages wait to go out
abbrev pub messages_where : Option CustomerLine → Data
messages_where None = null
messages_where (Some line) = number (unsigned (length line.state.messages))

-- ---- its streams

abbrev pub says_state : List ℕ → Data
says_state text = object (member (codes "state") (string text) no_members)

-- a file that comes: its records so far
abbrev pub receiver_data : CustomerSpool → Receiver → Data
receiver_data s receiver.Idle = null
receiver_data s (receiver.Open n progress) =
    object (member (codes "records") (number (unsigned (length (records_in n s)))) no_members)
receiver_data s receiver.Draining = says_state (codes "passed over")

abbrev pub name_where : Option WholeFile → Data
name_where None = null
name_where (Some f) = string (file_name_text (said_name f.records))

-- a file that goes out
abbrev pub going_data : CustomerSpool → ℕ → ℕ → List ℕ → Data
going_data s n sent state = object (
    member (codes "name") (name_where (whole_numbered n s))
    (member (codes "records") (number (unsigned (length (records_in n s))))
    (member (codes "sent") (number (unsigned sent))
    (member (codes "state") (string state) no_members))))

abbrev pub sender_data : CustomerSpool → Sender → Data
sender_data s sender.Idle = null
sender_data s (sender.Requested n) = going_data s n 0 (codes "asked for")
sender_data s (sender.Sending n next) = going_data s n next (codes "sending")
sender_data s (sender.EofSent n) = going_data s n (length (records_in n s)) (codes "sent")
sender_data s sender.Aborting = says_state (codes "given up")

abbrev pub receivers_where : CustomerSpool → Option CustomerLine → List Data
receivers_where s None = []
receivers_where s (Some line) = map (receiver_data s) line.receivers

abbrev pub senders_where : CustomerSpool → Option CustomerLine → List Data
senders_where s None = []
senders_where s (Some line) = map (sender_data s) line.senders

-- ---- how it is served

abbrev pub state_text : LineState → List ℕ
state_text Started = codes "started"
state_text Draining = codes "draining"
state_text Stopped = codes "stopped"

-- since when each stream stands as it stands
abbrev pub stands_data : LineView → Data
stands_data v = object (
    member (codes "from_hub") (array (items_of (map moment_number v.going_since.items)))
    (member (codes "to_hub") (array (items_of (map moment_number v.coming_since.items))) no_members))

-- how it is served, how its sessions were, and who comes to it
abbrev pub callers_data : LineView → Data
callers_data v = object (
    member (codes "connected") (moment_data v.connected)
    (member (codes "last_end") (string (string_bytes v.last_end))
    (member (codes "naks") (number (unsigned v.naks))
    (member (codes "peer") (peer_data v.peer)
    (member (codes "refused") (array (items_of (map refused_data v.refused.items)))
    (member (codes "repeats") (number (unsigned v.repeats))
    (member (codes "site") (string (string_bytes v.site))
    (member (codes "state") (string (state_text v.state))
    (member (codes "up") (moment_data v.up)
    (member (codes "waiting") (array (items_of (map guest_data v.waiting.items))) no_members))))))))))

-- with what was counted, and what is wrong
abbrev pub with_stands : LineView → Data → Data
with_stands v d =
    with_member (codes "stands") (stands_data v) (with_member (codes "wrong") (trouble_where v.wrong) d)

-- and what was counted on it
abbrev pub with_counts : LineView → Data → Data
with_counts v d = with_member (codes "counts") (counts_data v.counts) (with_stands v d)

-- and since when it is as it is
abbrev pub with_figures : LineView → Data → Data
with_figures v d =
    with_member (codes "state_since") (number (unsigned v.state_since)) (with_member (codes "down") (moment_data v.down)
    (with_counts v d))

abbrev pub served_data : Option LineView → Data
served_data None = null
served_data (Some v) = with_figures v (callers_data v)

abbrev pub is_of_line : LineId → LineView → Bool
is_of_line id v = (v.line.customer == id.customer) && (v.line.number == id.number)

-- ---- all

-- a line: by the tables, by the customer's files and its own line, and as it is served
abbrev pub line_data : NamedLine → CustomerSpool → Option CustomerLine → Option LineView → Data
line_data named s line served = object (
    member (codes "from_hub") (array (items_of (senders_where s line)))
    (member (codes "messages") (messages_where line)
    (member (codes "name") (string named.name)
    (member (codes "node") (string (name_text named.entry.node))
    (member (codes "protocol") (string (protocol_text named.protocol))
    (member (codes "queue") (queue_where served line)
    (member (codes "role") (string (role_text named.entry.role))
    (member (codes "served") (served_data served)
    (member (codes "session") (session_where line)
    (member (codes "to_hub") (array (items_of (receivers_where s line))) no_members))))))))))

abbrev pub line_id : ℕ → ℕ → LineId
line_id c index = record { customer = c; number = index }

-- the line of a number of customer c, whose part of the hub this is
abbrev pub line_told : List NamedLine → ℕ → Part → List LineView → ℕ → Data
line_told named c p views index =
    line_data (slice_index_or named index no_line) p.customer.spool (line_where index p)
    (find (is_of_line (line_id c index)) views)

abbrev pub lines_told_from : List NamedLine → ℕ → Part → List LineView → Page → List Data
lines_told_from named c p views page =
    map (line_told named c p views) (range_with_len page.first (page.end - page.first))

abbrev pub lines_page : NamedCustomer → ℕ → Page
lines_page named from = page_of from lines_told (length named.lines)

-- {"customer":"ACME","lines":[..],"next":null}
abbrev pub lines_data : NamedCustomer → ℕ → Part → List LineView → ℕ → Data
lines_data named c p views from = object (
    member (codes "customer") (string (name_text named.name))
    (member (codes "lines") (array (items_of (lines_told_from named.lines c p views (lines_page named from))))
    (member (codes "next") (next_data 0 (lines_page named from).end (length named.lines)) no_members)))
