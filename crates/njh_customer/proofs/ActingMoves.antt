-- What a record that comes does to a customer's whole files and to its streams from the hub.
use Rattle.njh_customer.proofs.Words
use Words.{ℕ, true, not, inl, inr, List, [], fold, map, filter, Option, Some, None, Ok, refl, sym, ap, Bool, subst}
use Words.{Contains, Item, stream_of, kind_of, Nodal, nodal_of, is_user_command, sender_of, node_unknown, CustomerSpool}
use Words.{PartialFile, WholeFile, without_partial, as_whole, partial_numbered, partial_records, one_more, with_arrived}
use Words.{with_finished, with_state, Held, Ready, Refused, route_of, Here, Arrival, file_in, after_grant}
use Words.{after_refusal, after_completion, is_whole, Sender, FilesMove, stay, held, released, rerouted, cancelled}
use Words.{CommandOutcome, changed_file, file_in_state, is_of_name, message_outcome, with_new_destination, command_of}
use Words.{Command, after_stream_arrival, with_sender_outcome, without_sending, with_outcome, after_user_command}
use Words.{after_record, acted_where, Customer, CustomerLine, line_at, receiver_at, Acts, Commands, busy_numbers}
use Words.{LeadsByMoves, nowhere, onward, OneActs, outgoing, streams_from_hub, sender_on, with_answer_on, with_waiting}
use Words.{with_message_to, CommandMoves, CustomerEntry, Outgoing, User}
use Rattle.{std.proofs.Common.{◌≡◌, ◌⊎◌, ◌∷◌, ◌++◌, ◌∙◌}, njh_block.specs.Blocks.{Data, Control}}
use Rattle.{njh_command.proofs.CommandMoves.files_move, njh_customer.proofs.LineWalks.{acted_keeps, kepts}}
use Rattle.njh_customer.proofs.LineWalks.{StaysWaiting, all_told_so, answered_so, arrived_so, told_so}
use Rattle.njh_customer.proofs.OutgoingLaws.{all_given_up, leads_then, of_parts, same_stream, senders_receiving}
use Rattle.njh_customer.proofs.{OutgoingLaws.{sent_is, stream_is}, RecordsDo.{RecordDoes, record_does, Brings}}
use Rattle.njh_customer.proofs.{RecordsDo.acted_where_so, SpoolWalks.{StaysInArrivals, received_so}}
use Rattle.njh_customer.specs.Customer.{sender_at}
use Rattle.njh_stream.specs.declared.sender.Sender.TheVariants as sender
use Rattle.njh_command.specs.declared.command.Command.TheVariants as commands
use Rattle.njh_customer.specs.Moves as moves
use Rattle.njh_customer.proofs.RecordsDo as does

pub record Acted (l : ℕ) (i : Item) (c d : Customer) : Type 0 where
  pub entry : d.entry ≡ c.entry
  pub moves : (outgoing d ≡ outgoing c) ⊎ Acts c.entry l i (outgoing c) (outgoing d)

-- by a move
did : {l : ℕ} {i : Item} {c d : Customer} → d.entry ≡ c.entry → Acts c.entry l i (outgoing c) (outgoing d)
    → Acted l i c d
did entry acts = record { entry = entry; moves = inr acts }

unmoved : (l : ℕ) (i : Item) (c : Customer) → Acted l i c c
unmoved l i c = record { entry = refl; moves = inl refl }

-- only its lines changed, and no stream from the hub
lines_alone : (l : ℕ) (i : Item) (lines : List CustomerLine) (c : Customer)
    → streams_from_hub lines ≡ streams_from_hub c.lines → Acted l i c (record c { lines = lines })
lines_alone l i lines c same = record { entry = refl; moves = inl (ap (of_parts c.spool.whole c.spool.arrived) same) }

-- ---- streams to the hub

-- the whole files are the same, and so many have come
abbrev SameWhole : CustomerSpool → CustomerSpool → Type 0
SameWhole s t = (t.whole ≡ s.whole) × (t.arrived ≡ s.arrived)

-- no file has come whole, or one has
data Filed (i : Item) (s t : CustomerSpool) : Type 0 where
  none_came : SameWhole s t → Filed i s t
  one : (rcb srcb : ℕ) (f : WholeFile) → i ≡ Data rcb srcb [] → f.state ≡ Ready → is_whole f.records ≡ true
      → t.whole ≡ s.whole ++ f ∷ [] → t.arrived ≡ one_more s.arrived → Filed i s t

finished_files : (rcb srcb n : ℕ) (s t : CustomerSpool) → is_whole (partial_records n t) ≡ true → SameWhole s t
    → Filed (Data rcb srcb []) s (with_finished n t)
finished_files rcb srcb n s t e same = at_file (partial_numbered n t) e
  where
    at_file : (o : Option PartialFile) → is_whole (elim o [ Some f ↦ f.records | None ↦ [] ]) ≡ true
        → Filed (Data rcb srcb []) s (elim o [ None ↦ t | Some f ↦ with_arrived (as_whole f) (without_partial n t) ])
    at_file None e = none_came same
    at_file (Some f) e =
        one rcb srcb (as_whole f) refl refl e (ap (λ (fs : List WholeFile). fs ++ as_whole f ∷ []) same.0)
        (ap one_more same.1)

files_in_arrivals : (s : CustomerSpool) → StaysInArrivals (SameWhole s) (λ i t. Filed i s t)
files_in_arrivals s = record {
  still = λ i t same. none_came same;
  without = λ n t same. same;
  begun = λ rcb srcb kind t room same. none_came same;
  appended = λ rcb r n t room same. none_came same;
  finished = λ rcb srcb n t whole same. finished_files rcb srcb n s t whole same;
}

arrived_acts : (l k : ℕ) (a : Arrival) (i : Item) (c : Customer) → Brings a i
    → Acted l i c (after_stream_arrival l k a c)
arrived_acts l k a i c brings =
    at_files (received_so (SameWhole c.spool) (λ j t. Filed j c.spool t) (files_in_arrivals c.spool) c.entry l
    (kind_of k) (receiver_at k (line_at l c.lines)) a i c.spool brings (refl, refl))
  where
    streams : streams_from_hub (after_stream_arrival l k a c).lines ≡ streams_from_hub c.lines
    streams = arrived_so l (λ lines. streams_from_hub lines ≡ streams_from_hub c.lines)
        (senders_receiving l c.lines) k a c refl

    parts_are : (files : List WholeFile) (arrived : ℕ) → (after_stream_arrival l k a c).spool.whole ≡ files
        → (after_stream_arrival l k a c).spool.arrived ≡ arrived
        → outgoing (after_stream_arrival l k a c) ≡ of_parts files arrived (streams_from_hub c.lines)
    parts_are files arrived whole came =
        let d = after_stream_arrival l k a c in
        ap (λ fs. of_parts fs d.spool.arrived (streams_from_hub d.lines)) whole
        ∙ ap (λ n. of_parts files n (streams_from_hub d.lines)) came ∙ ap (of_parts files arrived) streams

    at_files : Filed i c.spool (after_stream_arrival l k a c).spool → Acted l i c (after_stream_arrival l k a c)
    at_files (none_came same) =
        record { entry = refl; moves = inl (parts_are c.spool.whole c.spool.arrived same.0 same.1) }
    at_files (one rcb srcb f came ready whole last more) = did refl (moves.comes rcb srcb f came ready whole
        (parts_are (c.spool.whole ++ f ∷ []) (one_more c.spool.arrived) last more))

-- ---- streams from the hub

module _ (l k streams srcb : ℕ) (c : Customer) (names : stream_of streams srcb ≡ Some k) where
  -- nothing moves
  stays : (answer : ℕ) (x : Sender) → sender_on l k (outgoing c) ≡ x
      → Acted l (Control answer srcb) c (with_sender_outcome l k (record { sender = x; spool = c.spool }) c)
  stays answer x at =
      record { entry = refl; moves = inl (sent_is l k x c.spool c refl ∙ same_stream l k x (outgoing c) at) }

  permitted_acts : (x : Sender) → sender_on l k (outgoing c) ≡ x
      → Acted l (Control 0xa0 srcb) c (with_sender_outcome l k (record { sender = after_grant x; spool = c.spool }) c)
  permitted_acts (sender.Requested n) at =
      did refl (moves.permitted streams k n (record { srcb = srcb; is_control = refl; names = names }) at
      (sent_is l k (sender.Sending n 0) c.spool c refl))
  permitted_acts x at = stays 0xa0 x at

  refused_at : (n : ℕ) (s after : Sender) → file_in s ≡ Some n → file_in after ≡ None → sender_on l k (outgoing c) ≡ s
      → Acted l (Control 0xb0 srcb) c
      (with_sender_outcome l k (record { sender = after; spool = with_state n Refused c.spool }) c)
  refused_at n s after about none at =
      did refl (moves.refused streams k n after (record { srcb = srcb; is_control = refl; names = names })
      (ap (λ y. file_in y) at ∙ about) none (sent_is l k after (with_state n Refused c.spool) c refl))

  refused_acts : (x : Sender) → sender_on l k (outgoing c) ≡ x
      → Acted l (Control 0xb0 srcb) c (with_sender_outcome l k (after_refusal x c.spool) c)
  refused_acts (sender.Requested n) = refused_at n (sender.Requested n) sender.Idle refl refl
  refused_acts (sender.Sending n place) = refused_at n (sender.Sending n place) sender.Aborting refl refl
  refused_acts (sender.EofSent n) = refused_at n (sender.EofSent n) sender.Idle refl refl
  refused_acts x = stays 0xb0 x

  completed_acts : (x : Sender) → sender_on l k (outgoing c) ≡ x
      → Acted l (Control 0xc0 srcb) c (with_sender_outcome l k (after_completion x c.spool) c)
  completed_acts (sender.EofSent n) at =
      let sent = after_completion (sender.EofSent n) c.spool in
      did refl (moves.completed streams k n (record { srcb = srcb; is_control = refl; names = names }) at
      (sent_is l k sent.sender sent.spool c refl))
  completed_acts x at = stays 0xc0 x at

-- ---- messages

-- What a message of a user moves: nothing, or what the command that it is moves.
pub data Commanded (entry : CustomerEntry) (who : User) (message : List ℕ) (x y : Outgoing) : Type 0 where
  nothing_moves : y ≡ x → Commanded entry who message x y
  command_moves : (command : Command) → command_of message ≡ Some command → CommandMoves entry who command x y
      → Commanded entry who message x y

-- by what becomes of the files, where the streams of those that were cancelled gave them up
module _ (c : Customer) (who : User) (message : List ℕ) (done : CommandOutcome) (streams : List (List Sender))
    (gave_up : streams ≡ streams_from_hub (fold without_sending c.lines done.cancelled)) where
  -- no stream moves, and the files are these
  left_so : (files : List WholeFile) → done.files ≡ files → done.cancelled ≡ []
      → of_parts done.files c.spool.arrived streams ≡ of_parts files c.spool.arrived (streams_from_hub c.lines)
  left_so files left quiet = ap (λ fs. of_parts fs c.spool.arrived streams) left
      ∙ ap (of_parts files c.spool.arrived)
      (gave_up ∙ ap (λ numbers. streams_from_hub (fold without_sending c.lines numbers)) quiet)

  pub commanded : FilesMove c.entry who message c.spool.whole done
      → Commanded c.entry who message (outgoing c) (of_parts done.files c.spool.arrived streams)
  commanded (stay left quiet) = nothing_moves (left_so c.spool.whole left quiet)
  commanded (held name says left quiet) =
      let files = map (changed_file (is_of_name who name) (file_in_state Held)) c.spool.whole in
      command_moves (commands.Hold name) says (moves.holds name refl (left_so files left quiet))
  commanded (released name says left quiet) =
      let files = map (changed_file (is_of_name who name) (file_in_state Ready)) c.spool.whole in
      command_moves (commands.Release name) says (moves.releases name refl (left_so files left quiet))
  commanded (rerouted name node line says route left quiet) =
      let files = map (changed_file (is_of_name who name) (with_new_destination node)) c.spool.whole in
      command_moves (commands.Reroute name node) says
      (moves.reroutes name node line refl route (left_so files left quiet))
  commanded (cancelled name says left numbers) =
      let p = is_of_name who name in
      let kept = filter (λ f. not (p f)) c.spool.whole in
      command_moves (commands.Cancel name) says (moves.cancels name refl
      (ap (λ fs. of_parts fs c.spool.arrived streams) left
      ∙ ap (of_parts kept c.spool.arrived)
      (gave_up ∙ ap (λ ns. streams_from_hub (fold without_sending c.lines ns)) numbers)
      ∙ sym (all_given_up (busy_numbers p c.spool.whole) kept c.spool.arrived c.lines)))

-- the replies to a command move no stream
pub told : (n : Nodal) (done : CommandOutcome) (c : Customer) → streams_from_hub (with_outcome n done c).lines
    ≡ streams_from_hub (fold without_sending c.lines done.cancelled)
told n done c =
    let lines = fold without_sending c.lines done.cancelled in
    all_told_so 0 (λ xs. streams_from_hub xs ≡ streams_from_hub lines) (senders_receiving 0 lines).waiting c.entry
    (sender_of n) done.replies lines refl

module _ (l : ℕ) (i : Item) (c : Customer) (n : Nodal) where
  moved_acts : (done : CommandOutcome) → ((x : Command) → command_of n.message ≡ Some x
      → Commands c.entry (sender_of n) x i)
      → Commanded c.entry (sender_of n) n.message (outgoing c) (outgoing (with_outcome n done c))
      → Acted l i c (with_outcome n done c)
  moved_acts done given (nothing_moves same) = record { entry = refl; moves = inl same }
  moved_acts done given (command_moves command says move) =
      did refl (moves.commands (sender_of n) command (given command says) move)

  command_acts : (srcb : ℕ) (bytes : List ℕ) → i ≡ Data 0x9a srcb bytes → nodal_of bytes ≡ Ok n
      → route_of c.entry n.to ≡ Here → is_user_command n ≡ true → Acted l i c (after_user_command n c)
  command_acts srcb bytes is reads here user =
      let done = message_outcome c.entry (sender_of n) n.message c.spool in
      moved_acts done (λ x says. record {
        srcb = srcb;
        bytes = bytes;
        is_message = is;
        nodal = n;
        reads = reads;
        to_hub = here;
        is_command = user;
        sender = refl;
        says = says;
      }) (commanded c (sender_of n) n.message done (streams_from_hub (with_outcome n done c).lines) (told n done c)
      (files_move c.entry (sender_of n) n.message c.spool))

-- ---- every record

pub acts_so : (l : ℕ) (i : Item) (c : Customer) → Acted l i c (after_record l i c)
acts_so l i c = at i (after_record l i c) (record_does l c i)
  where
    streams : ℕ
    streams = (line_at l c.lines).streams

    x : ℕ → Sender
    x k = sender_at k (line_at l c.lines)

    same : StaysWaiting l (λ lines. streams_from_hub lines ≡ streams_from_hub c.lines)
    same = (senders_receiving l c.lines).waiting

    at : (i : Item) (d : Customer) → RecordDoes l c i d → Acted l i c d
    at _ _ (does.nothing i) = unmoved l i c
    at _ _ (does.arrives i code k a brings named) = arrived_acts l k a i c brings
    at _ _ (does.answers i a) = lines_alone l i (with_answer_on l a c.lines) c
        (answered_so l (λ lines. streams_from_hub lines ≡ streams_from_hub c.lines) same a c.lines refl)
    at _ _ (does.permits srcb k named) = permitted_acts l k streams srcb c named (x k) (stream_is l k c)
    at _ _ (does.refuses srcb k named) = refused_acts l k streams srcb c named (x k) (stream_is l k c)
    at _ _ (does.completes srcb k named) = completed_acts l k streams srcb c named (x k) (stream_is l k c)
    at _ _ (does.commands srcb bytes n reads here user) =
        command_acts l (Data 0x9a srcb bytes) c n srcb bytes refl reads here user
    at _ _ (does.knows_no_node i n) =
        lines_alone l i (with_message_to c.entry (sender_of n) (node_unknown n.to) c.lines) c
        (told_so l (λ lines. streams_from_hub lines ≡ streams_from_hub c.lines) same c.entry (sender_of n)
        (node_unknown n.to) c.lines refl)
    at _ _ (does.passes_on i k m) = lines_alone l i (with_waiting k m c.lines) c (same.waits k m c.lines refl)

-- ---- the records of a block

-- they act one after the other
pub record Acting (l : ℕ) (items : List Item) (c d : Customer) : Type 0 where
  pub entry : d.entry ≡ c.entry
  pub records : LeadsByMoves (OneActs c.entry l items) (outgoing c) (outgoing d)
  pub kept : kepts d.lines ≡ kepts c.lines  -- how each line is set up, its last transmission, and how far it is

one_acts : (l : ℕ) (items : List Item) (i : Item) (c d e : Customer) → Contains items i → Acting l items c d
    → Acted l i d e → kepts e.lines ≡ kepts d.lines → Acting l items c e
one_acts l items i c d e there acting acted keeps =
    let move : LeadsByMoves (OneActs c.entry l items) (outgoing d) (outgoing e) = elim (acted.moves) [
      | inl same ↦ subst (LeadsByMoves (OneActs c.entry l items) (outgoing d)) (sym same) (nowhere (outgoing d))
      | inr acts ↦ onward (outgoing d) (outgoing e) (outgoing e)
          (i, there, subst (λ entry. Acts entry l i (outgoing d) (outgoing e)) acting.entry acts) (nowhere (outgoing e))
    ] in
    record {
      entry = acted.entry ∙ acting.entry;
      records = leads_then (OneActs c.entry l items) (outgoing c) (outgoing d) (outgoing e) acting.records move;
      kept = keeps ∙ acting.kept;
    }

pub acting_where : (b : Bool) (l : ℕ) (items : List Item) (c : Customer)
    → Acting l items c (acted_where b l items c).customer
acting_where b l items c = acted_where_so l (Acting l items c) b items
    (λ i there d acting. one_acts l items i c d (after_record l i d) there acting (acts_so l i d)
    (acted_keeps l i d)) c (record { entry = refl; records = nowhere (outgoing c); kept = refl })
