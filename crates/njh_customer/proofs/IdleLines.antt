-- A line that isn't up has no stream about a file and no answer that waits, and SYSOUT 4 counts as served last.
use Rattle.njh_customer.proofs.Words
use Words.{cases_eq, cases_Bool, cases_lt, inl, inr, is_next, ℕ, Bool, true, false, List, length, set, get_or, Some}
use Words.{None, refl, sym, ap, subst, arith, get_or-map, map-set_same, get_or-set_at, get_or-set_same}
use Words.{get_or-set_other, length-map, length-set, get_or_past, All-map, Item, CustomerSpool, CustomerEntry, file_in}
use Words.{Receiver, without_file, is_up, Input, after_end, after_input, with_answer, with_message, KeepsUp, Phase}
use Words.{Down, Config, LineReply, without_sending, with_senders_by, all_acted, acted_where, with_idle_streams}
use Words.{replied_to, session_over, session_over_where, session_ended, carried_out, verdict_on, accepted_on}
use Words.{after_line_input, block_input, after_records, after_frame, after_signal, Customer, CustomerLine}
use Words.{no_customer_line, line_at, on_line, in_state, with_notice, with_receiver, with_sender, config_of}
use Words.{fresh_customer, idle_line, receiver_at, IsIdle, IdleUnlessUp, phase_of, sending_of_reply, with_waiting}
use Words.{SessionEnd, Signal, GivenOrder, customer_after_order, goes, Route, Here, Line, Unknown, route_of}
use Words.{notice_record, message_outcome}
use Rattle.{std.proofs.Common.{◌≡◌, ◌<◌, ◌∙◌}, njh_bisync.specs.Frames.Received, njh_line.proofs.UpLaws.inputs_keep_up}
use Rattle.{njh_line.specs.{LineTable.none, declared.verdict.Verdict.Verdict}, njh_customer.proofs.FileListLaws.copies}
use Rattle.njh_customer.proofs.{LineWalks.{StaysOnLines, given_up_so, record_on_lines}, RecordsDo.acted_where_so}
use Rattle.njh_customer.proofs.{ReplyLaws.reply_lasting, StepWalks.{frame_holds, signal_holds}}
use Rattle.njh_customer.specs.Customer.{sender_at}
use Rattle.njh_bisync.specs.declared.frame.Control.TheVariants as control
use Rattle.njh_stream.specs.declared.receiver.Receiver.TheVariants as receiver
use Rattle.njh_stream.specs.declared.sender.Sender.TheVariants as sender
use Rattle.njh_line.specs.declared.verdict.LineReply.TheVariants as reply
use Rattle.njh_customer.specs.declared.given_order.GivenOrder.TheVariants as orders

-- ---- one line among the others

-- each line but one rests, unless it is up
abbrev OthersRest : ℕ → List CustomerLine → Type 0
OthersRest l lines = (m : ℕ) → (m ≡ l → ⊥) → m < length lines → is_up (phase_of (line_at m lines)) ≡ false
    → IsIdle (line_at m lines)

others : (l : ℕ) (lines : List CustomerLine) → IdleUnlessUp lines → OthersRest l lines
others l lines rest m other there down = rest m there down

set_others : (l : ℕ) (x : CustomerLine) (lines : List CustomerLine) → OthersRest l lines → OthersRest l (set lines l x)
set_others l x lines rest m other there down =
    let same : line_at m (set lines l x) ≡ line_at m lines = get_or-set_other lines l m x no_customer_line other in
    subst IsIdle (sym same) (rest m other (omega (arith, length-set lines l x))
    (ap (λ y. is_up (phase_of y)) (sym same) ∙ down))

set_rests : (l : ℕ) (x : CustomerLine) (lines : List CustomerLine) → OthersRest l lines
    → (l < length lines → is_up (phase_of x) ≡ false → IsIdle x) → IdleUnlessUp (set lines l x)
set_rests l x lines rest here m there down = elim (cases_eq m l) [
  | inl same ↦
      let inside : l < length lines = omega (arith, length-set lines l x) in
      let it : line_at m (set lines l x) ≡ x = get_or-set_at lines l m x no_customer_line same inside in
      subst IsIdle (sym it) (here inside (ap (λ y. is_up (phase_of y)) (sym it) ∙ down))
  | inr other ↦ set_others l x lines rest m other there down
]

-- ---- what a record does, on a line that is up

record UpAndRest (l : ℕ) (lines : List CustomerLine) : Type 0 where
  pub up : is_up (phase_of (line_at l lines)) ≡ true
  pub rest : IdleUnlessUp lines

abbrev KeepsPhase : (CustomerLine → CustomerLine) → Type 0
KeepsPhase f = (x : CustomerLine) → phase_of (f x) ≡ phase_of x

-- line l is as far as it was where another one changes that is itself as far as it was
same_phase : (l k : ℕ) (f : CustomerLine → CustomerLine) (lines : List CustomerLine) → KeepsPhase f
    → phase_of (line_at l (on_line k f lines)) ≡ phase_of (line_at l lines)
same_phase l k f lines same = sym (get_or-map phase_of (on_line k f lines) l no_customer_line)
    ∙ ap (λ ps. get_or ps l Down) (map-set_same phase_of lines k (f (line_at k lines)) no_customer_line
    (same (line_at k lines))) ∙ get_or-map phase_of lines l no_customer_line

message_idle : (m : List ℕ) (x : CustomerLine) → IsIdle x → IsIdle (in_state (with_message m) x)
message_idle m x idle =
    record { receivers = idle.receivers; senders = idle.senders; answers = idle.answers; served = idle.served }

given_up_idle : (n : ℕ) (x : CustomerLine) → IsIdle x → IsIdle (with_senders_by (without_file n) x)
given_up_idle n x idle = record {
  receivers = idle.receivers;
  senders = λ k. get_or-map (without_file n) x.senders k sender.Idle ∙ ap (without_file n) (idle.senders k);
  answers = idle.answers;
  served = idle.served;
}

-- a message waits on a line, and streams give a file up
waiting_rests : (k : ℕ) (m : List ℕ) (lines : List CustomerLine) → IdleUnlessUp lines
    → IdleUnlessUp (with_waiting k m lines)
waiting_rests k m lines rest =
    let x = line_at k lines in
    set_rests k (in_state (with_message m) x) lines (others k lines rest)
    (λ there down. message_idle m x (rest k there down))

given_up_at : (n : ℕ) (lines : List CustomerLine) (m : ℕ)
    → line_at m (without_sending lines n) ≡ with_senders_by (without_file n) (line_at m lines)
given_up_at n lines m = get_or-map (with_senders_by (without_file n)) lines m no_customer_line

given_up_rests : (n : ℕ) (lines : List CustomerLine) → IdleUnlessUp lines → IdleUnlessUp (without_sending lines n)
given_up_rests n lines rest m there down =
    let it = given_up_at n lines m in
    subst IsIdle (sym it) (given_up_idle n (line_at m lines)
    (rest m (omega (arith, there, length-map lines (with_senders_by (without_file n))))
    (ap (λ x. is_up (phase_of x)) (sym it) ∙ down)))

module _ (l : ℕ) where
  -- the line changes
  own : (f : CustomerLine → CustomerLine) (lines : List CustomerLine) → KeepsPhase f → UpAndRest l lines
      → UpAndRest l (on_line l f lines)
  own f lines same r =
      let x = line_at l lines in
      record {
        up = ap is_up (same_phase l l f lines same) ∙ r.up;
        rest = set_rests l (f x) lines (others l lines r.rest)
            (λ _ down. absurd (cc (sym down ∙ ap is_up (same x) ∙ r.up)));
      }

  acting : StaysOnLines l (UpAndRest l)
  acting = record {
    receiving = record {
      waiting = record {
        answers = λ a lines r. own (in_state (with_answer a)) lines (λ x. refl) r;
        waits = λ k m lines r. record {
          up = ap is_up (same_phase l k (in_state (with_message m)) lines (λ y. refl)) ∙ r.up;
          rest = waiting_rests k m lines r.rest;
        };
      };
      receives = λ k receiver lines r. own (with_receiver k receiver) lines (λ x. refl) r;
      notes = λ k receiver n lines r. own (with_notice k receiver n) lines (λ x. refl) r;
    };
    sends = λ k s lines r. own (with_sender k s) lines (λ x. refl) r;
    gives_up = λ n lines r. record {
      up = ap (λ x. is_up (phase_of x)) (given_up_at n lines l) ∙ r.up;
      rest = given_up_rests n lines r.rest;
    };
  }

-- ---- the end of a session

idle_streams : (x : CustomerLine) → IsIdle (with_idle_streams x)
idle_streams x = record {
  receivers = λ k. copies (length x.receivers) k receiver.Idle;
  senders = λ k. copies (length x.senders) k sender.Idle;
  answers = refl;
  served = refl;
}

over_rests : (l : ℕ) (c : Customer) → OthersRest l c.lines → IdleUnlessUp (session_over l c).lines
over_rests l c rest = set_rests l (with_idle_streams (line_at l c.lines)) c.lines rest
    (λ _ _. idle_streams (line_at l c.lines))

ended_rests : (end : SessionEnd) (l : ℕ) (c : Customer) → OthersRest l c.lines
    → IdleUnlessUp (session_ended end l c).lines
ended_rests end l c rest = over_rests l (record c { lines = on_line l (in_state (after_end end)) c.lines })
    (set_others l (in_state (after_end end) (line_at l c.lines)) c.lines rest)

-- ---- what a line sends

-- it rests still where nothing of this changed
idle_still : (x y : CustomerLine) → y.receivers ≡ x.receivers → y.senders ≡ x.senders
    → y.state.answers ≡ x.state.answers → y.served ≡ x.served → IsIdle x → IsIdle y
idle_still x y receivers senders answers served idle = record {
  receivers = λ k. ap (λ rs. get_or rs k receiver.Idle) receivers ∙ idle.receivers k;
  senders = λ k. ap (λ ss. get_or ss k sender.Idle) senders ∙ idle.senders k;
  answers = answers ∙ idle.answers;
  served = served ∙ idle.served;
}

-- what it sends leaves it so, but for the next block
reply_idle : (entry : CustomerEntry) (l : ℕ) (r : LineReply) (s : CustomerSpool) (x : CustomerLine) → is_next r ≡ false
    → IsIdle x → IsIdle (sending_of_reply entry l r s x).line
reply_idle entry l (reply.Next or_ack0) s x quiet idle = absurd (cc quiet)
reply_idle entry l (reply.Control control.Enquiry) s x quiet idle = idle_still x _ refl refl refl refl idle
reply_idle entry l r s x quiet idle =
    idle_still x (sending_of_reply entry l r s x).line refl refl refl refl idle

replied_rests : (l : ℕ) (r : LineReply) (c : Customer) → (is_next r ≡ true
    → is_up (phase_of (line_at l c.lines)) ≡ true) → IdleUnlessUp c.lines → IdleUnlessUp (replied_to l r c).after.lines
replied_rests l r c up rest =
    let x = line_at l c.lines in
    let sent = (sending_of_reply c.entry l r c.spool x).line in
    let as_far : is_up (phase_of sent) ≡ is_up (phase_of x) =
    ap (λ (p : Config × Phase × ℕ × List Receiver). is_up p.1) (reply_lasting c.entry l r c.spool x) in
    set_rests l sent c.lines (others l c.lines rest) (λ there down. elim (cases_Bool (is_next r)) [
      | inl e ↦ absurd (cc (sym down ∙ as_far ∙ up e))
      | inr e ↦ reply_idle c.entry l r c.spool x e (rest l there (sym as_far ∙ down))
    ])

-- what a verdict asks for is sent, and then the session ends where it says so
carried_rests : (l : ℕ) (v : Verdict) (c : Customer) → OthersRest l c.lines → (v.ended ≡ false → IdleUnlessUp c.lines)
    → (is_next v.reply ≡ true → is_up (phase_of (line_at l c.lines)) ≡ true)
    → IdleUnlessUp (carried_out l v c).after.lines
carried_rests l v c rest going_on up =
    let sent = (replied_to l v.reply c).after in
    (elim (v.ended) as (λ b. v.ended ≡ b → IdleUnlessUp (session_over_where b l sent).lines) [
      | true ↦ λ e. over_rests l sent
          (set_others l (sending_of_reply c.entry l v.reply c.spool (line_at l c.lines)).line c.lines rest)
      | false ↦ λ e. replied_rests l v.reply c up (going_on e)
    ]) refl

-- ---- what comes on a line

module _ (l : ℕ) (came : Input) (c : Customer) (there : l < length c.lines)
    (rest : IdleUnlessUp c.lines) where
  abbrev before : CustomerLine
  before = line_at l c.lines

  abbrev after : Phase
  after = (after_input came before.state).session.phase

  abbrev accepted : Customer
  accepted = accepted_on l came c

  keeps : KeepsUp before.state.config came before.state.session
  keeps = inputs_keep_up before.state.config before.state.session came

  accepted_phase : is_up (phase_of (line_at l accepted.lines)) ≡ is_up after
  accepted_phase = ap (λ x. is_up (phase_of x)) (get_or-set_same c.lines l
      (in_state (after_input came) before) no_customer_line there)

  accepted_others : OthersRest l accepted.lines
  accepted_others = set_others l (in_state (after_input came) before) c.lines (others l c.lines rest)

  -- a line that was up is up still, so one that isn't was at rest
  accepted_rests : (verdict_on l came c).ended ≡ false → IdleUnlessUp accepted.lines
  accepted_rests on = set_rests l (in_state (after_input came) before) c.lines (others l c.lines rest)
      (λ _ down. elim (cases_Bool (is_up (phase_of before))) [
        | inl e ↦ absurd (cc (sym down ∙ keeps.on on e))
        | inr e ↦ idle_still before (in_state (after_input came) before) refl refl refl refl (rest l there e)
      ])

  accepted_up : is_up after ≡ true → UpAndRest l accepted.lines
  accepted_up up = record {
    up = accepted_phase ∙ up;
    rest = set_rests l (in_state (after_input came) before) c.lines (others l c.lines rest)
        (λ _ down. absurd (cc (sym down ∙ up)));
  }

  input_rests : IdleUnlessUp (after_line_input l came c).after.lines
  input_rests = carried_rests l (verdict_on l came c) accepted accepted_others accepted_rests
      (λ next. accepted_phase ∙ keeps.next next)

  -- records act on a line that is up, so it is up after them
  acting_rests : (acts : Bool) (items : List Item) → (verdict_on l came c).acts ≡ acts
      → (let a = acted_where acts l items accepted in IdleUnlessUp
      (after_records a.end l (verdict_on l came c) a.customer).after.lines)
  acting_rests false items e = input_rests
  acting_rests true items e =
      let a = all_acted l items accepted in
      let acted = acted_where_so l (λ d. UpAndRest l d.lines) true items
      (λ i at. record_on_lines l (UpAndRest l) (acting l) i) accepted (accepted_up (keeps.acts e)) in
      let rest = others l a.customer.lines acted.rest in
      elim (a.end) as (λ o. IdleUnlessUp (after_records o l (verdict_on l came c) a.customer).after.lines) [
        | Some end ↦ ended_rests end l a.customer rest
        | None ↦ carried_rests l (verdict_on l came c) a.customer rest (λ _. acted.rest) (λ _. acted.up)
      ]

-- ---- a frame, and a signal

pub idle_by_frame : (l : ℕ) (x : Received) (c : Customer) → IdleUnlessUp c.lines
    → IdleUnlessUp (after_frame l x c).after.lines
idle_by_frame l x c rest = frame_holds l c (λ items s. IdleUnlessUp s.after.lines) (record {
  none = λ items. rest;
  input = λ came there. input_rests l came c there rest;
  block = λ b there. acting_rests l (block_input b) c there rest (verdict_on l (block_input b) c).acts b.items refl;
}) x

pub idle_by_signal : (l : ℕ) (x : Signal) (c : Customer) → IdleUnlessUp c.lines
    → IdleUnlessUp (after_signal l x c).after.lines
idle_by_signal l x c rest =
    signal_holds l c (λ s. IdleUnlessUp s.after.lines) rest (λ came there. input_rests l came c there rest) x

-- ---- a customer that was just opened

fresh_idle : (config : Config) (streams : ℕ) → IsIdle (idle_line config streams)
fresh_idle config streams = record {
  receivers = λ k. copies 8 k receiver.Idle;
  senders = λ k. copies 8 k sender.Idle;
  answers = refl;
  served = refl;
}

pub fresh_lines_idle : (entry : CustomerEntry) (l : ℕ) → l < length (fresh_customer entry).lines
    → IsIdle (line_at l (fresh_customer entry).lines)
fresh_lines_idle entry l there = All-map IsIdle (λ line. idle_line (config_of entry line) line.streams) entry.lines
    (λ i d h. let line = get_or entry.lines i d in fresh_idle (config_of entry line) line.streams) l no_customer_line
    there

pub idle_when_opened : (entry : CustomerEntry) → IdleUnlessUp (fresh_customer entry).lines
idle_when_opened entry l there down = fresh_lines_idle entry l there

-- ---- a customer whose lines are all idle

module _ (c : Customer) (idle : (l : ℕ) → l < length c.lines → IsIdle (line_at l c.lines)) where
  -- on a line that isn't there too
  at_line : (P : CustomerLine → Type 0) → ((x : CustomerLine) → IsIdle x → P x) → P no_customer_line → (l : ℕ)
      → P (line_at l c.lines)
  at_line P idles none l = elim (cases_lt l (length c.lines)) [
    | inl there ↦ idles (line_at l c.lines) (idle l there)
    | inr past ↦ subst P (sym (get_or_past c.lines l no_customer_line past)) none
  ]

  pub receivers_idle : (l k : ℕ) → receiver_at k (line_at l c.lines) ≡ receiver.Idle
  receivers_idle l k = at_line (λ x. receiver_at k x ≡ receiver.Idle) (λ x is. is.receivers k) refl l

  pub senders_idle : (l k : ℕ) → file_in (sender_at k (line_at l c.lines)) ≡ None
  senders_idle l k = at_line (λ x. file_in (sender_at k x) ≡ None) (λ x is. ap file_in (is.senders k)) refl l

-- ---- an order

message_rests : (r : Route) (m : List ℕ) (lines : List CustomerLine) → IdleUnlessUp lines → IdleUnlessUp
    (goes r m lines)
message_rests Here m lines rest = rest
message_rests (Line k) m lines rest = waiting_rests k m lines rest
message_rests Unknown m lines rest = rest

pub idle_by_order : (order : GivenOrder) (c : Customer) → IdleUnlessUp c.lines
    → IdleUnlessUp (customer_after_order order c).lines
idle_by_order (orders.Command owner text) c rest =
    given_up_so IdleUnlessUp given_up_rests (message_outcome c.entry owner text c.spool).cancelled c.lines rest
idle_by_order (orders.Message whom text) c rest =
    message_rests (route_of c.entry whom.node) (notice_record c.entry.hub whom text) c.lines rest
