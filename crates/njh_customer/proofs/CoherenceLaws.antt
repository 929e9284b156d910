-- A customer is coherent when it is opened, stays so whatever comes, and has as many lines.
use Rattle.njh_customer.proofs.Words
use Words.{ℕ, List, length, set, get_or, Some, None, refl, sym, ap, subst, arith, map, All, option_map, get_or-map}
use Words.{map-set, length-map, length-set, All-set, map-map, Kind, Item, Aborted, kind_of, CustomerSpool}
use Words.{partial_numbered, without_partial, as_whole, with_arrived, with_finished, CustomerEntry, answer_on, Arrival}
use Words.{Request, received_arrival, streams_at, stream_at, with_stream, Agrees, AreTied, Receiver, after_arrival}
use Words.{after_stream_arrival, Customer, CustomerLine, no_customer_line, line_at, on_line, with_notice, receiver_at}
use Words.{with_receiver, with_answer_on, with_notice_to, streams_to_hub, limits_of, HasStreams, IsCoherent, false}
use Words.{All-map, All-nil, HasHeaders, WholeFile, empty_spool, config_of, fresh_customer, idle_line, Bool, true, cond}
use Words.{fold, Option, nat_lt, ltb-true, stream_number, stream_of, Nodal, sender_of, node_unknown, SenderOutcome}
use Words.{after_grant, after_refusal, after_completion, Sender, message_outcome, without_file, Input, after_input}
use Words.{with_sender_outcome, without_sending, after_user_command, after_record, with_senders_by, accepted_on}
use Words.{goes_up_by, with_raised_line, in_state, with_sender, with_waiting, with_message_to, OrdersKeepCoherent}
use Words.{customer_after_order}
use Rattle.{std.proofs.Common.{◌≡◌, ◌<◌, ◌∙◌, ◌≤◌, ◌+◌, ◌%◌, ◌==◌}, njh_block.specs.Blocks.Control}
use Rattle.{njh_spool.proofs.NumberLaws.next_number-fresh, njh_stream.proofs.HeadersKept.received_headers}
use Rattle.njh_stream.{proofs.TiedLaws.{arrival_tied, at_rest, untouched}, specs.Receiving.{Data, Long, Abort}}
use Rattle.njh_stream.specs.{Receiving.ReceiverStep, declared.receiver.Receiver.TheVariants.Idle}
use Rattle.{njh_command.proofs.HeadersKept.headers_kept, njh_customer.proofs.FileListLaws.{as_many, each_same}}
use Rattle.njh_customer.proofs.{IdleLines.{fresh_lines_idle, receivers_idle}, LineWalks.{IsSeen, answered_so}}
use Rattle.njh_customer.proofs.LineWalks.{notified_so, on_line_seen, StaysWaiting, seen_waiting, all_told_so, told_so}
use Rattle.njh_customer.proofs.{LineWalks.given_up_so, RecordsDo.{a_request, an_abort, some_data, too_long, Brings}}
use Rattle.njh_customer.proofs.{RecordsDo.{RecordDoes, record_does}, Restated.{IsHarmless, as_it_is, restated_harmless}}
use Rattle.njh_customer.proofs.{Restated.{completed_harmless, refused_restated}, SpoolWalks.received_so}
use Rattle.njh_customer.specs.Customer.{sender_at}
use Rattle.njh_block.specs.Blocks as block
use Rattle.njh_customer.proofs.RecordsDo as does
use Rattle.njh_customer.specs.declared.given_order.GivenOrder.TheVariants as orders

-- the streams to the hub, and how many the peer may use
abbrev pub shape : CustomerLine → ℕ × List Receiver
shape x = (x.streams, x.receivers)

abbrev pub shapes : List CustomerLine → List (ℕ × List Receiver)
shapes lines = map shape lines

pub same_streams : (xs ys : List CustomerLine) → shapes xs ≡ shapes ys → streams_to_hub xs ≡ streams_to_hub ys
same_streams xs ys same = sym (map-map (λ p. p.1) shape xs) ∙ ap (map (λ p. p.1)) same ∙ map-map (λ p. p.1) shape ys

pub streamed_still : (xs ys : List CustomerLine) → shapes xs ≡ shapes ys → All HasStreams ys → All HasStreams xs
streamed_still xs ys same all k d h = let e : shape (get_or xs k d) ≡ shape (get_or ys k d) =
    sym (get_or-map shape xs k d) ∙ ap (λ ps. get_or ps k (shape d)) same ∙ get_or-map shape ys k d in
    let long : length xs ≡ length ys = as_many shape xs ys same in
    let there = all k d (omega arith) in
    (ap (λ p. length p.1) e ∙ there.0, omega (arith, ap (λ p. p.0) e))

-- what waits isn't seen of it
pub shape_waiting : (l : ℕ) (before : List CustomerLine) → StaysWaiting l (IsSeen shape before)
shape_waiting l before = seen_waiting shape l before (record { answers = λ a x. refl; messages = λ m x. refl })

-- an entry of the same quota, the same limit of files, and as many marks
abbrev pub IsEntryLike : (new old : CustomerEntry) → Type 0
IsEntryLike new old = (new.quota ≡ old.quota) × (new.files ≡ old.files) × (length new.up ≡ length old.up)

-- the streams are the same, and the files changed harmlessly
pub record IsLike (d c : Customer) : Type 0 where
  pub entry : IsEntryLike d.entry c.entry
  pub lines : shapes d.lines ≡ shapes c.lines
  pub files : IsHarmless c.spool d.spool

pub coherent_still : (d c : Customer) → IsLike d c → IsCoherent c → IsCoherent d
coherent_still d c like coherent = record {
  tied = subst (λ lines. AreTied lines d.spool) (sym (same_streams d.lines c.lines like.lines))
      (untouched (streams_to_hub c.lines) c.spool d.spool like.files.partial coherent.tied);
  streamed = streamed_still d.lines c.lines like.lines coherent.streamed;
  headers = like.files.headers coherent.headers;
  quota = ap (λ (l : ℕ × ℕ). l.0) like.files.limits ∙ coherent.quota ∙ sym like.entry.0;
  limit = ap (λ (l : ℕ × ℕ). l.1) like.files.limits ∙ coherent.limit ∙ sym like.entry.1;
  marks = like.entry.2 ∙ coherent.marks ∙ sym (as_many shape d.lines c.lines like.lines);
}

-- ---- the stream at a place

pub stream_is : (l k : ℕ) (lines : List CustomerLine) → stream_at l k (streams_to_hub lines) ≡ receiver_at k
    (line_at l lines)
stream_is l k lines = ap (λ rs. get_or rs k Idle) (get_or-map (λ x. x.receivers) lines l no_customer_line)

pub agrees_there : (l k : ℕ) (c : Customer) → IsCoherent c
    → Agrees (kind_of k) (receiver_at k (line_at l c.lines)) c.spool
agrees_there l k c coherent = subst (λ r. Agrees (kind_of k) r c.spool) (stream_is l k c.lines)
    (coherent.tied.agree l k)

-- ---- an arrival

finished_limits : (n : ℕ) (s : CustomerSpool) → limits_of (with_finished n s) ≡ limits_of s
finished_limits n s = elim (partial_numbered n s) as (λ o.
    limits_of (elim o [ None ↦ s | Some f ↦ with_arrived (as_whole f) (without_partial n s) ]) ≡ limits_of s)
    [ None ↦ refl | Some f ↦ refl ]

-- an item that brings it
brought : (a : Arrival) → (i : Item) × Brings a i
brought Request = (Control 0 0, a_request 0 0)
brought (Data srcb bytes) = (block.Data 0 srcb bytes, some_data 0 srcb bytes)
brought Long = (block.Long 0 0, too_long 0 0)
brought Abort = (Aborted 0 0, an_abort 0 0)

-- it leaves the quota and the limit of files
received_limits : (entry : CustomerEntry) (l : ℕ) (kind : Kind) (r : Receiver) (a : Arrival) (s : CustomerSpool)
    → limits_of (received_arrival entry l kind r a s).spool ≡ limits_of s
received_limits entry l kind r a s =
    let item = brought a in
    received_so (λ t. limits_of t ≡ limits_of s) (λ i t. limits_of t ≡ limits_of s) (record {
      still = λ i t same. same;
      without = λ n t same. same;
      begun = λ rcb srcb k t room same. same;
      appended = λ rcb more n t room same. same;
      finished = λ rcb srcb n t whole same. finished_limits n t ∙ same;
    }) entry l kind r a item.0 s item.1 refl

with_streams : (l k : ℕ) (r : Receiver) (lines : List CustomerLine)
    → streams_to_hub (on_line l (with_receiver k r) lines) ≡ with_stream l k r (streams_to_hub lines)
with_streams l k r lines = map-set (λ x. x.receivers) lines l (with_receiver k r (line_at l lines)) ∙ ap
    (λ rs. set (streams_to_hub lines) l (set rs k r)) (sym (get_or-map (λ x. x.receivers) lines l no_customer_line))

-- the stream has moved, and nothing was said of it yet
abbrev moved : ℕ → ℕ → ReceiverStep → Customer → Customer
moved l k done c = record c { spool = done.spool; lines = on_line l (with_receiver k done.receiver) c.lines }

keeps_moved : (l k : ℕ) (a : Arrival) (c : Customer) → l < length c.lines → k < 8 → IsCoherent c
    → IsCoherent (moved l k (received_arrival c.entry l (kind_of k) (receiver_at k (line_at l c.lines)) a c.spool) c)
keeps_moved l k a c line_there stream_there coherent =
    let lines = streams_to_hub c.lines in
    let r = receiver_at k (line_at l c.lines) in
    let done = received_arrival c.entry l (kind_of k) r a c.spool in
    let eight = coherent.streamed l no_customer_line line_there in
    let at : streams_at l lines ≡ (line_at l c.lines).receivers = get_or-map
    (λ x. x.receivers) c.lines l no_customer_line in
    let there : l < length lines = omega (arith, length-map c.lines (λ x. x.receivers)) in
    let in_line : k < length (streams_at l lines) = omega (arith, ap length at) in
    let tied = arrival_tied c.entry l k a lines c.spool next_number-fresh there in_line coherent.tied in
    let now : AreTied (with_stream l k done.receiver lines) done.spool =
    subst (λ x. let d = received_arrival c.entry l (kind_of k) x a c.spool in
    AreTied (with_stream l k d.receiver lines) d.spool) (stream_is l k c.lines) tied in
    record {
      tied = subst (λ rs. AreTied rs done.spool) (sym (with_streams l k done.receiver c.lines)) now;
      streamed = All-set HasStreams c.lines l (with_receiver k done.receiver (line_at l c.lines))
          (length-set (line_at l c.lines).receivers k done.receiver ∙ eight.0, eight.1) coherent.streamed;
      headers = received_headers c.entry l (kind_of k) r a c.spool (agrees_there l k c coherent) coherent.headers;
      quota = ap (λ (l : ℕ × ℕ). l.0) (received_limits c.entry l (kind_of k) r a c.spool) ∙ coherent.quota;
      limit = ap (λ (l : ℕ × ℕ). l.1) (received_limits c.entry l (kind_of k) r a c.spool) ∙ coherent.limit;
      marks = coherent.marks ∙ sym (length-set c.lines l (with_receiver k done.receiver (line_at l c.lines)));
    }

keeps_arrived : (l k : ℕ) (a : Arrival) (c : Customer) → l < length c.lines → k < 8 → IsCoherent c
    → IsCoherent (after_stream_arrival l k a c)
keeps_arrived l k a c line_there stream_there coherent =
    let done = received_arrival c.entry l (kind_of k) (receiver_at k (line_at l c.lines)) a c.spool in
    let lines = on_line l (with_receiver k done.receiver) c.lines in
    let answer = option_map (answer_on k) done.answer in
    let told = with_notice_to c.entry done.notice (with_answer_on l answer lines) in
    let waiting = shape_waiting l lines in
    coherent_still (after_arrival l k done c) (moved l k done c) (record {
      entry = (refl, refl, refl);
      lines = on_line_seen shape l (with_notice k done.receiver done.notice) told (λ x. refl)
          ∙ notified_so l (IsSeen shape lines) waiting c.entry done.notice (with_answer_on l answer lines)
          (answered_so l (IsSeen shape lines) waiting answer lines refl);
      files = restated_harmless done.spool done.spool (as_it_is done.spool);
    }) (keeps_moved l k a c line_there stream_there coherent)

-- ---- a customer that was just opened

pub fresh_coherent : (entry : CustomerEntry) → All (λ line. line.streams ≤ 4) entry.lines
    → IsCoherent (fresh_customer entry)
fresh_coherent entry few = record {
  tied = at_rest (streams_to_hub (fresh_customer entry).lines) (empty_spool entry.quota entry.files)
      (λ l k. stream_is l k (fresh_customer entry).lines ∙ receivers_idle (fresh_customer entry)
      (fresh_lines_idle entry) l k) refl;
  streamed = All-map HasStreams (λ line. idle_line (config_of entry line) line.streams) entry.lines
      (λ i d h. (refl, few i d h));
  headers = All-nil (λ (f : WholeFile). HasHeaders f.kind f.records);
  quota = refl;
  limit = refl;
  marks = length-map entry.lines (λ _. false) ∙ sym (length-map entry.lines
      (λ line. idle_line (config_of entry line) line.streams));
}

-- ---- the steps of a customer

-- only its lines change, and no stream to the hub
pub lines_coherent : (lines : List CustomerLine) (c : Customer) → shapes lines ≡ shapes c.lines → IsCoherent c
    → IsCoherent (record c { lines = lines })
lines_coherent lines c same = coherent_still (record c { lines = lines }) c
    (record { entry = (refl, refl, refl); lines = same; files = restated_harmless c.spool c.spool (as_it_is c.spool) })

-- a mark on a line
raised_like : (up : Bool) (l : ℕ) (entry : CustomerEntry) → IsEntryLike (with_raised_line up l entry) entry
raised_like true l entry = (refl, refl, length-set entry.up l true)
raised_like false l entry = (refl, refl, refl)

pub accepted_coherent : (l : ℕ) (came : Input) (c : Customer) → IsCoherent c → IsCoherent (accepted_on l came c)
accepted_coherent l came c = coherent_still (accepted_on l came c) c (record {
  entry = raised_like (goes_up_by l came c) l c.entry;
  lines = on_line_seen shape l (in_state (after_input came)) c.lines (λ x. refl);
  files = restated_harmless c.spool c.spool (as_it_is c.spool);
})

-- a stream from the hub moves, and its file
sent_coherent : (l k : ℕ) (sent : SenderOutcome) (c : Customer) → IsHarmless c.spool sent.spool → IsCoherent c
    → IsCoherent (with_sender_outcome l k sent c)
sent_coherent l k sent c files = coherent_still (with_sender_outcome l k sent c) c (record {
  entry = (refl, refl, refl);
  lines = on_line_seen shape l (with_sender k sent.sender) c.lines (λ x. refl);
  files = files;
})

command_coherent : (n : Nodal) (c : Customer) → IsCoherent c → IsCoherent (after_user_command n c)
command_coherent n c =
    let l : ℕ = 0 in
    let done = message_outcome c.entry (sender_of n) n.message c.spool in
    let lines = fold without_sending c.lines done.cancelled in
    coherent_still (after_user_command n c) c (record {
      entry = (refl, refl, refl);
      lines = all_told_so l (IsSeen shape lines) (shape_waiting l lines) c.entry (sender_of n) done.replies lines refl
          ∙ given_up_so (IsSeen shape c.lines) (λ m xs so. each_same shape (with_senders_by (without_file m))
          (λ x. refl) xs ∙ so) done.cancelled c.lines refl;
      files = record { partial = refl; limits = refl; headers = headers_kept c.entry (sender_of n) n.message c.spool };
    })

pub order_coherent : OrdersKeepCoherent
order_coherent (orders.Command owner text) c =
    let done = message_outcome c.entry owner text c.spool in
    coherent_still (customer_after_order (orders.Command owner text) c) c (record {
      entry = (refl, refl, refl);
      lines = given_up_so (IsSeen shape c.lines) (λ m xs so. each_same shape (with_senders_by (without_file m))
          (λ x. refl) xs ∙ so) done.cancelled c.lines refl;
      files = record { partial = refl; limits = refl; headers = headers_kept c.entry owner text c.spool };
    })
order_coherent (orders.Message whom text) c =
    lines_coherent (with_message_to c.entry whom text c.lines) c
    (told_so 0 (IsSeen shape c.lines) (shape_waiting 0 c.lines) c.entry whom text c.lines refl)

-- a stream of a line is one of eight
one_of_eight : (streams rcb k : ℕ) → streams ≤ 4 → stream_of streams rcb ≡ Some k → k < 8
one_of_eight streams rcb k few h = at_number (stream_number rcb) h
  where
    by_kind : (n : ℕ) (b : Bool) → n < streams → Some (cond b n (n + 4)) ≡ Some k → k < 8
    by_kind n true lt e = let same : n ≡ k = cc e in omega arith
    by_kind n false lt e = let same : n + 4 ≡ k = cc e in omega arith

    at_limit : (n : ℕ) (b : Bool) → nat_lt n streams ≡ b
        → cond b (Some (cond (rcb % 16 == 8) n (n + 4))) None ≡ Some k → k < 8
    at_limit n true e h = by_kind n (rcb % 16 == 8) (ltb-true n streams e) h
    at_limit n false e h = absurd (cc h)

    at_number : (o : Option ℕ) → elim o [
      | None ↦ None
      | Some n ↦ cond (nat_lt n streams) (Some (cond (rcb % 16 == 8) n (n + 4))) None
    ] ≡ Some k → k < 8
    at_number None h = absurd (cc h)
    at_number (Some n) h = at_limit n (nat_lt n streams) refl h

pub acted_coherent : (l : ℕ) (i : Item) (c : Customer) → l < length c.lines → IsCoherent c
    → IsCoherent (after_record l i c)
acted_coherent l i c line_there coherent = at i (after_record l i c) (record_does l c i)
  where
    x : ℕ → Sender
    x k = sender_at k (line_at l c.lines)

    waiting : StaysWaiting l (IsSeen shape c.lines)
    waiting = shape_waiting l c.lines

    lines : (new : List CustomerLine) → shapes new ≡ shapes c.lines → IsCoherent (record c { lines = new })
    lines new same = lines_coherent new c same coherent

    at : (i : Item) (d : Customer) → RecordDoes l c i d → IsCoherent d
    at _ _ (does.nothing i) = coherent
    at _ _ (does.arrives i code k a brings named) =
        let few = (coherent.streamed l no_customer_line line_there).1 in
        keeps_arrived l k a c line_there (one_of_eight (line_at l c.lines).streams code k few named) coherent
    at _ _ (does.answers i a) =
        lines (with_answer_on l a c.lines) (answered_so l (IsSeen shape c.lines) waiting a c.lines refl)
    at _ _ (does.permits srcb k named) = lines (on_line l (with_sender k (after_grant (x k))) c.lines)
        (on_line_seen shape l (with_sender k (after_grant (x k))) c.lines (λ y. refl))
    at _ _ (does.refuses srcb k named) =
        let sent = after_refusal (x k) c.spool in
        sent_coherent l k sent c (restated_harmless c.spool sent.spool (refused_restated (x k) c.spool)) coherent
    at _ _ (does.completes srcb k named) =
        sent_coherent l k (after_completion (x k) c.spool) c (completed_harmless (x k) c.spool) coherent
    at _ _ (does.commands srcb bytes n reads here user) = command_coherent n c coherent
    at _ _ (does.knows_no_node i n) = lines (with_message_to c.entry (sender_of n) (node_unknown n.to) c.lines)
        (told_so l (IsSeen shape c.lines) waiting c.entry (sender_of n) (node_unknown n.to) c.lines refl)
    at _ _ (does.passes_on i k m) = lines (with_waiting k m c.lines) (waiting.waits k m c.lines refl)
