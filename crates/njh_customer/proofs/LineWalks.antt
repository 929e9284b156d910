-- What is so of a customer's lines stays so, whatever waits on them and whatever a record changes of them.
use Rattle.njh_customer.proofs.Words
use Words.{ℕ, List, [], fold, map, Option, Some, None, option_map, length, refl, map-set_same, User, Item, kind_of}
use Words.{Answer, notice_record, sender_of, node_unknown, CustomerEntry, route_of, Route, Here, Line, Unknown}
use Words.{answer_on, Arrival, Notice, received_arrival, after_completion, after_grant, after_refusal, Receiver, Sender}
use Words.{message_outcome, without_file, with_answer, with_message, Phase, Config, after_record, after_stream_arrival}
use Words.{without_sending, with_senders_by, Customer, CustomerLine, no_customer_line, line_at, on_line, in_state}
use Words.{with_notice, receiver_at, with_receiver, with_sender, all_said, goes, with_answer_on, with_message_to}
use Words.{with_notice_to, with_waiting, GivenOrder, customer_after_order}
use Rattle.{std.proofs.Common.{◌≡◌, ◌∷◌, ◌∙◌}, njh_customer.proofs.FileListLaws.{as_many, each_same}}
use Rattle.njh_customer.{proofs.RecordsDo.{RecordDoes, record_does}, specs.Customer.sender_at}
use Rattle.njh_customer.proofs.RecordsDo as does
use Rattle.njh_customer.specs.declared.given_order.GivenOrder.TheVariants as orders

-- ---- what waits

-- What is so of lines stays so by an answer on line l, and by a message on any line.
pub record StaysWaiting (l : ℕ) (I : List CustomerLine → Type 0) : Type 0 where
  pub answers : (a : Answer) (lines : List CustomerLine) → I lines → I (on_line l (in_state (with_answer a)) lines)
  pub waits : (k : ℕ) (m : List ℕ) (lines : List CustomerLine) → I lines → I (with_waiting k m lines)

module _ (l : ℕ) (I : List CustomerLine → Type 0) (keep : StaysWaiting l I) where
  pub answered_so : (a : Option Answer) (lines : List CustomerLine) → I lines → I (with_answer_on l a lines)
  answered_so None lines so = so
  answered_so (Some a) lines so = keep.answers a lines so

  goes_so : (r : Route) (m : List ℕ) (lines : List CustomerLine) → I lines → I (goes r m lines)
  goes_so Here m lines so = so
  goes_so (Line k) m lines so = keep.waits k m lines so
  goes_so Unknown m lines so = so

  pub told_so : (entry : CustomerEntry) (whom : User) (text : List ℕ) (lines : List CustomerLine) → I lines
      → I (with_message_to entry whom text lines)
  told_so entry whom text = goes_so (route_of entry whom.node) (notice_record entry.hub whom text)

  pub all_told_so : (entry : CustomerEntry) (whom : User) (texts : List (List ℕ)) (lines : List CustomerLine) → I lines
      → I (all_said entry whom texts lines)
  all_told_so entry whom [] lines so = so
  all_told_so entry whom (t ∷ ts) lines so =
      all_told_so entry whom ts (with_message_to entry whom t lines) (told_so entry whom t lines so)

  pub notified_so : (entry : CustomerEntry) (notice : Option Notice) (lines : List CustomerLine) → I lines
      → I (with_notice_to entry notice lines)
  notified_so entry None lines so = so
  notified_so entry (Some n) lines so = told_so entry n.whom n.text lines so

pub given_up_so :
    (I : List CustomerLine → Type 0) → ((n : ℕ) (lines : List CustomerLine) → I lines → I (without_sending lines n))
    → (ns : List ℕ) (lines : List CustomerLine) → I lines → I (fold without_sending lines ns)
given_up_so I one [] lines so = so
given_up_so I one (n ∷ ns) lines so = given_up_so I one ns (without_sending lines n) (one n lines so)

-- ---- what comes

-- And so by what an arrival leaves on line l,
pub record StaysReceiving (l : ℕ) (I : List CustomerLine → Type 0) : Type 0 where
  pub waiting : StaysWaiting l I
  pub receives : (k : ℕ) (r : Receiver) (lines : List CustomerLine) → I lines → I (on_line l (with_receiver k r) lines)
  pub notes : (k : ℕ) (r : Receiver) (n : Option Notice) (lines : List CustomerLine) → I lines
      → I (on_line l (with_notice k r n) lines)

pub arrived_so : (l : ℕ) (I : List CustomerLine → Type 0) → StaysReceiving l I → (k : ℕ) (a : Arrival) (c : Customer)
    → I c.lines → I (after_stream_arrival l k a c).lines
arrived_so l I keep k a c so =
    let done = received_arrival c.entry l (kind_of k) (receiver_at k (line_at l c.lines)) a c.spool in
    let lines = on_line l (with_receiver k done.receiver) c.lines in
    let answer = option_map (answer_on k) done.answer in
    let waiting = with_answer_on l answer lines in
    keep.notes k done.receiver done.notice (with_notice_to c.entry done.notice waiting)
    (notified_so l I keep.waiting c.entry done.notice waiting
    (answered_so l I keep.waiting answer lines (keep.receives k done.receiver c.lines so)))

-- by a stream from the hub of line l that moves, and by the streams that give a file up.
pub record StaysOnLines (l : ℕ) (I : List CustomerLine → Type 0) : Type 0 where
  pub receiving : StaysReceiving l I
  pub sends : (k : ℕ) (s : Sender) (lines : List CustomerLine) → I lines → I (on_line l (with_sender k s) lines)
  pub gives_up : (n : ℕ) (lines : List CustomerLine) → I lines → I (without_sending lines n)

pub record_on_lines : (l : ℕ) (I : List CustomerLine → Type 0) → StaysOnLines l I → (i : Item) (c : Customer)
    → I c.lines → I (after_record l i c).lines
record_on_lines l I keep i c so = at i (after_record l i c) (record_does l c i)
  where
    waiting : StaysWaiting l I
    waiting = keep.receiving.waiting

    at : (i : Item) (d : Customer) → RecordDoes l c i d → I d.lines
    at _ _ (does.nothing i) = so
    at _ _ (does.arrives i code k a brings names) = arrived_so l I keep.receiving k a c so
    at _ _ (does.answers i a) = answered_so l I waiting a c.lines so
    at _ _ (does.permits srcb k names) = keep.sends k (after_grant (sender_at k (line_at l c.lines))) c.lines so
    at _ _ (does.refuses srcb k names) =
        keep.sends k (after_refusal (sender_at k (line_at l c.lines)) c.spool).sender c.lines so
    at _ _ (does.completes srcb k names) =
        keep.sends k (after_completion (sender_at k (line_at l c.lines)) c.spool).sender c.lines so
    at _ _ (does.commands srcb bytes n reads here user) =
        let done = message_outcome c.entry (sender_of n) n.message c.spool in
        all_told_so l I waiting c.entry (sender_of n) done.replies (fold without_sending c.lines done.cancelled)
        (given_up_so I keep.gives_up done.cancelled c.lines so)
    at _ _ (does.knows_no_node i n) = told_so l I waiting c.entry (sender_of n) (node_unknown n.to) c.lines so
    at _ _ (does.passes_on i k m) = waiting.waits k m c.lines so

-- ---- an order

pub order_on_lines : (l : ℕ) (I : List CustomerLine → Type 0) → StaysWaiting l I
    → ((n : ℕ) (lines : List CustomerLine) → I lines → I (without_sending lines n)) → (order : GivenOrder)
    → (c : Customer) → I c.lines → I (customer_after_order order c).lines
order_on_lines l I waiting gives_up (orders.Command owner text) c so =
    given_up_so I gives_up (message_outcome c.entry owner text c.spool).cancelled c.lines so
order_on_lines l I waiting gives_up (orders.Message whom text) c so = told_so l I waiting c.entry whom text c.lines so

-- ---- what is seen of each line

module _ {X : Type 0} (g : CustomerLine → X) where
  pub on_line_seen : (l : ℕ) (f : CustomerLine → CustomerLine) (lines : List CustomerLine)
      → ((x : CustomerLine) → g (f x) ≡ g x) → map g (on_line l f lines) ≡ map g lines
  on_line_seen l f lines same = map-set_same g lines l (f (line_at l lines)) no_customer_line (same (line_at l lines))

-- What waits isn't seen of a line,
pub record SeesNoWaiting {X : Type 0} (g : CustomerLine → X) : Type 0 where
  pub answers : (a : Answer) (x : CustomerLine) → g (in_state (with_answer a) x) ≡ g x
  pub messages : (m : List ℕ) (x : CustomerLine) → g (in_state (with_message m) x) ≡ g x

-- nor what comes on its streams to the hub.
pub record SeesNoArrivals {X : Type 0} (g : CustomerLine → X) : Type 0 where
  pub waiting : SeesNoWaiting g
  pub receivers : (k : ℕ) (r : Receiver) (x : CustomerLine) → g (with_receiver k r x) ≡ g x
  pub notices : (k : ℕ) (r : Receiver) (n : Option Notice) (x : CustomerLine) → g (with_notice k r n x) ≡ g x

-- what is seen of these is seen of others
abbrev pub IsSeen : {X : Type 0} → (CustomerLine → X) → List CustomerLine → List CustomerLine → Type 0
IsSeen g before lines = map g lines ≡ map g before

module _ {X : Type 0} (g : CustomerLine → X) (l : ℕ) (before : List CustomerLine) where
  pub seen_waiting : SeesNoWaiting g → StaysWaiting l (IsSeen g before)
  seen_waiting sees = record {
    answers = λ a lines so. on_line_seen g l (in_state (with_answer a)) lines (sees.answers a) ∙ so;
    waits = λ k m lines so. on_line_seen g k (in_state (with_message m)) lines (sees.messages m) ∙ so;
  }

  pub seen_receiving : SeesNoArrivals g → StaysReceiving l (IsSeen g before)
  seen_receiving sees = record {
    waiting = seen_waiting sees.waiting;
    receives = λ k r lines so. on_line_seen g l (with_receiver k r) lines (sees.receivers k r) ∙ so;
    notes = λ k r n lines so. on_line_seen g l (with_notice k r n) lines (sees.notices k r n) ∙ so;
  }

-- ---- what no record changes of a line

abbrev pub kept : CustomerLine → Config × List ℕ × Phase × ℕ
kept x = (x.state.config, x.state.last, x.state.session.phase, x.streams)

abbrev pub kepts : List CustomerLine → List (Config × List ℕ × Phase × ℕ)
kepts lines = map kept lines

keeps : (l : ℕ) (before : List CustomerLine) → StaysOnLines l (IsSeen kept before)
keeps l before = record {
  receiving = seen_receiving kept l before (record {
    waiting = record { answers = λ a x. refl; messages = λ m x. refl };
    receivers = λ k r x. refl;
    notices = λ k r n x. refl;
  });
  sends = λ k s lines so. on_line_seen kept l (with_sender k s) lines (λ x. refl) ∙ so;
  gives_up = λ n lines so. each_same kept (with_senders_by (without_file n)) (λ x. refl) lines ∙ so;
}

pub acted_keeps : (l : ℕ) (i : Item) (c : Customer) → kepts (after_record l i c).lines ≡ kepts c.lines
acted_keeps l i c = record_on_lines l (IsSeen kept c.lines) (keeps l c.lines) i c refl

-- an order leaves the entry
pub order_entry : (order : GivenOrder) (c : Customer) → (customer_after_order order c).entry ≡ c.entry
order_entry (orders.Command owner text) c = refl
order_entry (orders.Message whom text) c = refl

pub order_keeps : (order : GivenOrder) (c : Customer) → kepts (customer_after_order order c).lines ≡ kepts c.lines
order_keeps order c =
    let keep = keeps 0 c.lines in
    order_on_lines 0 (IsSeen kept c.lines) keep.receiving.waiting keep.gives_up order c refl

-- as many lines
pub lines_of : (c d : Customer) → kepts d.lines ≡ kepts c.lines → length d.lines ≡ length c.lines
lines_of c d e = as_many kept d.lines c.lines e
