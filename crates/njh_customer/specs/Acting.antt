-- What the records of a block do to a customer, one after the other (IBM SC23-0070, multileaving).
use Rattle.std.specs.Prelude.{ℕ, Bool, true, false, List, [], ◌∷◌, fold, map, Option, Some, None, Result, Ok, Err, ◌==◌}
use Rattle.std.specs.Prelude.{cond}
use Rattle.std.specs.Option.{option_map}
use Rattle.njh_block.specs.Blocks.{Item, Data, Aborted, Long, Control, General, control_byte, stream_number, stream_of}
use Rattle.njh_block.specs.Codes.{kind_of}
use Rattle.njh_block.specs.declared.answer.Answer.{Answer}
use Rattle.njh_block.specs.declared.rcb.ControlRcb.TheVariants.{Completion, Permission, Refusal, Request}
use Rattle.njh_line.specs.RecordEnds.{record_end}
use Rattle.njh_line.specs.declared.ending.SessionEnd.{SessionEnd}
use Rattle.njh_texts.specs.Texts.{node_unknown}
use Rattle.njh_nmr.specs.declared.fault.NmrFault.{NmrFault}
use Rattle.njh_nmr.specs.Nodal.{Nodal, nodal_of, is_user_command, cut_after_message, sender_of}
use Rattle.njh_table.specs.Entries.{route_of}
use Rattle.njh_table.specs.declared.Route.{Route}
use Rattle.njh_table.specs.declared.Route.TheVariants.{Here, Line, Unknown}
use Rattle.njh_stream.specs.declared.sender.Sender.{Sender}
use Rattle.njh_stream.specs.Arrivals.{answer_on}
use Rattle.njh_stream.specs.Receiving as receiving
use Rattle.njh_stream.specs.Receiving.{Arrival, ReceiverStep, received_arrival}
use Rattle.njh_stream.specs.Sending.{SenderOutcome, after_grant, after_refusal, after_completion}
use Rattle.njh_command.specs.Commands.{message_outcome, spool_after, without_file, CommandOutcome}
use Rattle.njh_customer.specs.Customer.{Customer, CustomerLine, line_at, on_line, with_notice, receiver_at}
use Rattle.njh_customer.specs.Customer.{with_receiver, sender_at, with_sender}
use Rattle.njh_customer.specs.Waiting.{with_answer_on, with_waiting, with_message_to, all_said, with_notice_to}

-- ---- streams to the hub

-- an arrival on a stream of a line leaves this, is answered so, and the owner of the file is told so
abbrev pub after_arrival : ℕ → ℕ → ReceiverStep → Customer → Customer
after_arrival l k done c = record c {
  spool = done.spool;
  lines =
      on_line l (with_notice k done.receiver done.notice)
      (with_notice_to c.entry done.notice (with_answer_on l (option_map (answer_on k) done.answer)
      (on_line l (with_receiver k done.receiver) c.lines)));
}

abbrev pub after_stream_arrival : ℕ → ℕ → Arrival → Customer → Customer
after_stream_arrival l k a c =
    after_arrival l k (received_arrival c.entry l (kind_of k) (receiver_at k (line_at l c.lines)) a c.spool) c

-- by an RCB, which may name no stream of the line
abbrev pub after_stream_record : ℕ → Option ℕ → Arrival → Customer → Customer
after_stream_record l None a c = c
after_stream_record l (Some k) a c = after_stream_arrival l k a c

-- ---- streams from the hub

abbrev pub with_sender_outcome : ℕ → ℕ → SenderOutcome → Customer → Customer
with_sender_outcome l k sent c = record c { spool = sent.spool; lines = on_line l (with_sender k sent.sender) c.lines }

abbrev pub after_permission : ℕ → ℕ → Customer → Customer
after_permission l k c =
    record c { lines = on_line l (with_sender k (after_grant (sender_at k (line_at l c.lines)))) c.lines }

-- the peer's answer to a stream: permission, refusal or completion
abbrev pub after_peer_answer : ℕ → ℕ → ℕ → Customer → Customer
after_peer_answer l rcb k c =
    cond (rcb == control_byte Permission) (after_permission l k c)
    (cond (rcb == control_byte Refusal)
    (with_sender_outcome l k (after_refusal (sender_at k (line_at l c.lines)) c.spool) c)
    (cond (rcb == control_byte Completion)
    (with_sender_outcome l k (after_completion (sender_at k (line_at l c.lines)) c.spool) c) c))

-- ---- control records

-- the answer to a request for a stream that the line doesn't have: a refusal, if it names one at all
abbrev pub refusal_of : ℕ → Option ℕ → Option Answer
refusal_of srcb None = None
refusal_of srcb (Some n) = Some (record { rcb = Refusal; stream = record { byte = srcb } })

abbrev pub after_stream_request : ℕ → ℕ → Option ℕ → Customer → Customer
after_stream_request l srcb None c =
    record c { lines = with_answer_on l (refusal_of srcb (stream_number srcb)) c.lines }
after_stream_request l srcb (Some k) c = after_stream_arrival l k receiving.Request c

abbrev pub peer_answered : ℕ → ℕ → Option ℕ → Customer → Customer
peer_answered l rcb None c = c
peer_answered l rcb (Some k) c = after_peer_answer l rcb k c

abbrev pub after_control_record : ℕ → ℕ → ℕ → Customer → Customer
after_control_record l rcb srcb c =
    let stream = stream_of (line_at l c.lines).streams srcb in
    cond (rcb == control_byte Request) (after_stream_request l srcb stream c) (peer_answered l rcb stream c)

-- ---- nodal messages

abbrev pub with_senders_by : (Sender → Sender) → CustomerLine → CustomerLine
with_senders_by f x = record x { senders = map f x.senders }

-- a file was cancelled that was being sent: its stream gives it up
abbrev pub without_sending : List CustomerLine → ℕ → List CustomerLine
without_sending lines n = map (with_senders_by (without_file n)) lines

abbrev pub with_outcome : Nodal → CommandOutcome → Customer → Customer
with_outcome n done c = record c {
  spool = spool_after done c.spool;
  lines = all_said c.entry (sender_of n) done.replies (fold without_sending c.lines done.cancelled);
}

-- a command of a user to the hub
abbrev pub after_user_command : Nodal → Customer → Customer
after_user_command n c = with_outcome n (message_outcome c.entry (sender_of n) n.message c.spool) c

-- the sender of a command is told that nobody has the node
abbrev pub after_unknown_node : Nodal → Customer → Customer
after_unknown_node n c = record c { lines = with_message_to c.entry (sender_of n) (node_unknown n.to) c.lines }

-- A message that came on a line, by the route of its node: the hub's own are commands of users, others are sent on, but
-- not back, and of a node that nobody has the user hears who commanded something.
abbrev pub message_routed : ℕ → Nodal → List ℕ → Route → Customer → Customer
message_routed l n bytes Here c = cond (is_user_command n) (after_user_command n c) c
message_routed l n bytes (Line k) c =
    cond (k == l) c (record c { lines = with_waiting k (cut_after_message bytes) c.lines })
message_routed l n bytes Unknown c = cond (is_user_command n) (after_unknown_node n c) c

-- what is no nodal message is ignored
abbrev pub message_read : ℕ → List ℕ → Result Nodal NmrFault → Customer → Customer
message_read l bytes (Err e) c = c
message_read l bytes (Ok n) c = message_routed l n bytes (route_of c.entry n.to) c

abbrev pub after_message : ℕ → List ℕ → Customer → Customer
after_message l bytes c = message_read l bytes (nodal_of bytes) c

-- ---- every record

-- a record with bytes: a nodal message, or one of a stream
abbrev pub after_data : ℕ → ℕ → ℕ → List ℕ → Customer → Customer
after_data l rcb srcb bytes c =
    cond (rcb == 0x9a) (after_message l bytes c)
    (after_stream_record l (stream_of (line_at l c.lines).streams rcb) (receiving.Data srcb bytes) c)

-- what a record does that ends no session
abbrev pub after_record : ℕ → Item → Customer → Customer
after_record l (Data rcb srcb bytes) c = after_data l rcb srcb bytes c
after_record l (Aborted rcb srcb) c =
    after_stream_record l (stream_of (line_at l c.lines).streams rcb) receiving.Abort c
after_record l (Long rcb srcb) c = after_stream_record l (stream_of (line_at l c.lines).streams rcb) receiving.Long c
after_record l (Control rcb srcb) c = after_control_record l rcb srcb c
after_record l (General srcb rest) c = c

-- The customer after records, and the end that one made of the session, if one did.
pub record Acted : Type 0 where
  pub end : Option SessionEnd
  pub customer : Customer

-- the records act in their order, up to one that ends the session
abbrev pub ended_or : Option SessionEnd → Customer → Acted → Acted
ended_or (Some end) c later = record { end = Some end; customer = c }
ended_or None c later = later

abbrev pub all_acted : ℕ → List Item → Customer → Acted
all_acted l [] c = record { end = None; customer = c }
all_acted l (i ∷ is) c = ended_or (record_end i) c (all_acted l is (after_record l i c))

abbrev pub acted_where : Bool → ℕ → List Item → Customer → Acted
acted_where true l items c = all_acted l items c
acted_where false l items c = record { end = None; customer = c }
