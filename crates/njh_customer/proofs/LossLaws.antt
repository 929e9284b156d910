-- What a customer has when the session of each of its lines is lost, one after the other.
use Rattle.njh_customer.proofs.Words
use Words.{cases_lt, cond_both, ℕ, zero, suc, Bool, true, false, cond, nat_lt, List, [], length, map, set, get_or, find}
use Words.{Option, Some, None, refl, sym, ap, subst, arith, inl, inr, eq-eqb, eqb-true, get_or-map, ltb-false}
use Words.{length-set, Contains-append_right, Contains, Rest, Nothing, CustomerSpool, PartialFile, WholeFile}
use Words.{partial_numbered, State, Ready, Refused, CustomerEntry, all_ended, file_in, goes_by, is_refused}
use Words.{may_go_again, ready, spool_after_session, tried_again, coming_file, Sender, is_up, cell, end, hang_up}
use Words.{after_input, Phase, Down, Up, Config, Session, silent, with_idle_streams, session_over, session_over_where}
use Words.{replied_to, carried_out, verdict_on, accepted_on, after_line_input, Customer, CustomerLine, no_customer_line}
use Words.{line_at, in_state, IsInOrder, IsIdle, LossesLeaveFiles, phase_of, at_rest, state_at_rest, losses}
use Words.{after_losses, with_file_state, Part, rest_at, rest_on, OwnSignal, alone_run, event_run, Lost}
use Rattle.{std.proofs.Common.{◌≡◌, ◌<◌, ◌≤◌, ◌==◌, ◌&&◌, ◌∷◌, ◌∙◌}, njh_spool.specs.declared.State.TheVariants.Sending}
use Rattle.njh_line.specs.{LineTable.{table_outcome, none}, declared.verdict.Verdict.Verdict}
use Rattle.njh_customer.proofs.{FileListLaws.{each_same, from_where, set_one}, IdleLines.{receivers_idle, senders_idle}}
use Rattle.njh_customer.proofs.{OrderLaws.stays_in_order, OutgoingLaws.{on_line_senders, stream_is}}
use Rattle.njh_customer.proofs.{Restated.{ended_where, without_open_same}, StepsGrow.set_down}
use Rattle.njh_customer.specs.Alone.{after_signal}
use Rattle.njh_stream.specs.declared.sender.Sender.TheVariants as sender
use Rattle.njh_line.specs.LineTable as input
use Rattle.njh_line.specs.declared.ending.SessionEnd.TheVariants as ends
use Rattle.njh_line.specs.declared.verdict.LineReply.TheVariants as reply
use Rattle.njh_customer.proofs.CoherenceLaws as coherence

-- ---- the files at rest

-- the files of a number are Ready at rest
abbrev RestReady : ℕ → List WholeFile → Type 0
RestReady n fs = (f : WholeFile) → Contains fs f → f.number ≡ n → state_at_rest f.state ≡ Ready

marked_at_rest : (n : ℕ) (fs : List WholeFile) → RestReady n fs
    → map at_rest (with_file_state n Ready fs) ≡ map at_rest fs
marked_at_rest n [] restful = refl
marked_at_rest n (f ∷ fs) restful =
    let marked = map at_rest (with_file_state n Ready fs) in
    let rest : at_rest f ∷ marked ≡ at_rest f ∷ map at_rest fs = ap (λ more. at_rest f ∷ more)
    (marked_at_rest n fs (λ g at. restful g (Contains-append_right (f ∷ []) fs g at))) in
    cond_both (f.number == n) (record f { state = Ready }) f (λ g. at_rest g ∷ marked ≡ at_rest f ∷ map at_rest fs)
    (λ e. ap (λ s. record f { state = s } ∷ marked) (sym (restful f (0, omega arith, refl) (eqb-true f.number n e)))
    ∙ rest) (λ _. rest)

marked_still : (m n : ℕ) (fs : List WholeFile) → RestReady n fs → RestReady n (with_file_state m Ready fs)
marked_still m n fs restful g at same =
    elim (from_where (λ f. f.number == m) (λ f. record f { state = Ready }) fs g at) [
      | inl (f, there, e, is) ↦ ap (λ h. state_at_rest h.state) is
      | inr (there, e) ↦ restful g there same
    ]

ended_still : (x : Sender) (n : ℕ) (s : CustomerSpool) → RestReady n s.whole
    → RestReady n (spool_after_session x s).whole
ended_still x n s restful = elim (file_in x) as (λ o. RestReady n (ended_where o s).whole) [
  | None ↦ restful
  | Some m ↦ marked_still m n s.whole restful
]

-- the files that streams are about are Ready at rest, and so is what the end of these streams makes of them
all_ended_at_rest : (xs : List Sender) (s : CustomerSpool) → ((k n : ℕ) → file_in (get_or xs k sender.Idle) ≡ Some n
    → RestReady n s.whole) → map at_rest (all_ended xs s).whole ≡ map at_rest s.whole
all_ended_at_rest [] s restful = refl
all_ended_at_rest (x ∷ xs) s restful =
    all_ended_at_rest xs (spool_after_session x s) (λ k n about. ended_still x n s (restful (suc k) n about)) ∙ at_file
    (file_in x) refl
  where
    at_file : (o : Option ℕ) → file_in x ≡ o → map at_rest (ended_where o s).whole ≡ map at_rest s.whole
    at_file None e = refl
    at_file (Some n) e = marked_at_rest n s.whole (restful zero n e)

tried_file : (entry : CustomerEntry) (l : ℕ) (f : WholeFile)
    → at_rest (cond (may_go_again entry l f) (ready f) f) ≡ at_rest f
tried_file entry l f = at_state f.state (goes_by entry l f)
  where
    at_state : (state : State) (b : Bool)
        → at_rest (cond (is_refused state && b) (ready f) (record f { state = state })) ≡ record f
        { state = state_at_rest state }
    at_state Refused true = refl
    at_state Refused false = refl
    at_state _ b = refl

tried_at_rest : (entry : CustomerEntry) (l : ℕ) (fs : List WholeFile)
    → map at_rest (map (λ f. cond (may_go_again entry l f) (ready f) f) fs) ≡ map at_rest fs
tried_at_rest entry l fs = each_same at_rest (λ f. cond (may_go_again entry l f) (ready f) f) (tried_file entry l) fs

-- ---- lines that are down

set_still_down : (lines : List CustomerLine) (l m : ℕ) (x : CustomerLine) → phase_of x ≡ Down
    → phase_of (line_at m lines) ≡ Down → phase_of (line_at m (set lines l x)) ≡ Down
set_still_down lines l m x down there = elim (set_one lines l m x no_customer_line) [
  | inl same ↦ ap phase_of same ∙ there
  | inr it ↦ ap phase_of it.1 ∙ down
]

-- ---- the loss of one line

-- nothing is sent, and the session ends or there was none
abbrev lost_verdict : Bool → Verdict
lost_verdict ended = record { ended = ended; acts = false; reply = reply.Nothing }

record HangsUp (s : Session) (v : Verdict) : Type 0 where
  pub ended : Bool
  pub verdict : v ≡ lost_verdict ended
  pub down : s.phase ≡ Down

lost_hangs_up : (config : Config) (s : Session) → (let o = table_outcome config input.Lost s in
    HangsUp o.session o.verdict)
unfolding table_outcome
lost_hangs_up config s = at s.phase refl
  where
    at : (p : Phase) → s.phase ≡ p → (let o = cell p (none s) (hang_up s) (hang_up s) (hang_up s) (end ends.Lost s) in
        HangsUp o.session o.verdict)
    at Down e = record { ended = false; verdict = refl; down = e }
    at Up e = record { ended = true; verdict = refl; down = refl }
    at _ e = record { ended = false; verdict = refl; down = refl }

-- The line is down, those that were down are so still, and the files at rest are the same.
record LineLost (l : ℕ) (c d : Customer) : Type 0 where
  pub lines : length d.lines ≡ length c.lines
  pub down : phase_of (line_at l d.lines) ≡ Down
  pub still : (m : ℕ) → phase_of (line_at m c.lines) ≡ Down → phase_of (line_at m d.lines) ≡ Down
  pub files : map at_rest d.spool.whole ≡ map at_rest c.spool.whole

module _ (l : ℕ) (c : Customer) (order : IsInOrder c) where
  -- once the line table has judged it, and nothing was sent
  abbrev judged : Customer
  judged = (replied_to l reply.Nothing (accepted_on l input.Lost c)).after

  hangs_up : HangsUp (after_input input.Lost (line_at l c.lines).state).session (verdict_on l input.Lost c)
  hangs_up = lost_hangs_up (line_at l c.lines).state.config (line_at l c.lines).state.session

  abbrev accepted_line : CustomerLine
  accepted_line = in_state (after_input input.Lost) (line_at l c.lines)

  abbrev accepted_lines : List CustomerLine
  accepted_lines = set c.lines l accepted_line

  accepted_down : phase_of (line_at l accepted_lines) ≡ Down
  accepted_down = set_down c.lines l accepted_line hangs_up.down

  judged_lost : LineLost l c judged
  judged_lost = record {
    lines = length-set accepted_lines l (line_at l accepted_lines) ∙ length-set c.lines l accepted_line;
    down = set_down accepted_lines l (line_at l accepted_lines) accepted_down;
    still = λ m there. set_still_down accepted_lines l m (line_at l accepted_lines) accepted_down
        (set_still_down c.lines l m accepted_line hangs_up.down there);
    files = refl;
  }

  same_senders : (line_at l judged.lines).senders ≡ (line_at l c.lines).senders
  same_senders = sym (get_or-map (λ x. x.senders) judged.lines l no_customer_line) ∙ ap (λ all. get_or all l [])
      (on_line_senders l (λ x. x) accepted_lines (λ x. refl) ∙ on_line_senders l
      (in_state (after_input input.Lost)) c.lines (λ x. refl)) ∙ get_or-map (λ x. x.senders) c.lines l no_customer_line

  -- what the line was sending is Ready at rest
  sent_ready : (k n : ℕ) → file_in (get_or (line_at l judged.lines).senders k sender.Idle) ≡ Some n
      → RestReady n c.spool.whole
  sent_ready k n about f at same =
      let here = stream_is l k c ∙ ap (λ xs. get_or xs k sender.Idle) (sym same_senders) in
      ap state_at_rest (order.sent.sending l k n f (ap file_in here ∙ about) at same)

  over_files : map at_rest (session_over l judged).spool.whole ≡ map at_rest c.spool.whole
  over_files =
      let x = line_at l judged.lines in
      ap (map at_rest) ((without_open_same x.receivers (tried_again judged.entry l
      (all_ended x.senders c.spool))).whole) ∙ tried_at_rest judged.entry l (all_ended x.senders c.spool).whole
      ∙ all_ended_at_rest x.senders c.spool sent_ready

  over_lost : (ended : Bool) → LineLost l c (session_over_where ended l judged)
  over_lost false = judged_lost
  over_lost true =
      let x = with_idle_streams (line_at l judged.lines) in
      record {
        lines = length-set judged.lines l x ∙ judged_lost.lines;
        down = set_down judged.lines l x judged_lost.down;
        still = λ m there. set_still_down judged.lines l m x judged_lost.down (judged_lost.still m there);
        files = over_files;
      }

  input_lost : LineLost l c (after_line_input l input.Lost c).after
  input_lost = subst (λ v. LineLost l c (carried_out l v (accepted_on l input.Lost c)).after) (sym hangs_up.verdict)
      (over_lost hangs_up.ended)

  signal_lost : l < length c.lines → LineLost l c (after_signal l Lost c).after
  unfolding after_signal
  signal_lost there =
      cond_both (nat_lt l (length c.lines)) (after_line_input l input.Lost c) (silent c) (λ s. LineLost l c s.after)
      (λ e. input_lost) (λ e. absurd (omega (arith, ltb-false l (length c.lines) e)))

-- ---- what has come of frames

none_came : (rests : List Rest) (l : ℕ) → rest_at l (set rests l Nothing) ≡ Nothing
none_came [] l = refl
none_came (r ∷ rs) zero = refl
none_came (r ∷ rs) (suc l) = none_came rs l

none_still : (rests : List Rest) (l m : ℕ) → rest_at m rests ≡ Nothing → rest_at m (set rests l Nothing) ≡ Nothing
none_still rests l m there =
    elim (set_one rests l m Nothing Nothing) [ inl same ↦ same ∙ there | inr it ↦ it.1 ]

-- ---- the loss of the lines below a number

record LinesLost (n : ℕ) (p q : Part) : Type 0 where
  pub order : IsInOrder q.customer
  pub files : map at_rest q.customer.spool.whole ≡ map at_rest p.customer.spool.whole
  pub lines : length q.customer.lines ≡ length p.customer.lines
  pub down : (m : ℕ) → m < n → phase_of (line_at m q.customer.lines) ≡ Down
  pub still_down : (m : ℕ) → phase_of (line_at m p.customer.lines) ≡ Down → phase_of (line_at m q.customer.lines) ≡ Down
  pub rests : (m : ℕ) → m < n → rest_on m q ≡ Nothing
  pub still_none : (m : ℕ) → rest_on m p ≡ Nothing → rest_on m q ≡ Nothing

-- a number below the next one is this one, or below it
below : (P : ℕ → Type 0) (n m : ℕ) → m < suc n → P n → (m < n → P m) → P m
below P n m few here earlier = elim (cases_lt m n) [
  | inl lt ↦ earlier lt
  | inr past ↦ let same : n ≡ m = omega arith in subst P same here
]

all_lost : (n : ℕ) (p : Part) → n ≤ length p.customer.lines → IsInOrder p.customer
    → LinesLost n p (alone_run p (losses n)).after
all_lost zero p few order = record {
  order = order;
  files = refl;
  lines = refl;
  down = λ m none. absurd (omega (arith, none));
  still_down = λ m there. there;
  rests = λ m none. absurd (omega (arith, none));
  still_none = λ m there. there;
}
all_lost (suc l) p few order =
    let x = (event_run p (OwnSignal Lost l)).after in
    let y = (alone_run x (losses l)).after in
    let one = signal_lost l p.customer order (omega arith) in
    let later = all_lost l x (omega arith) (stays_in_order.events p (OwnSignal Lost l) order) in
    record {
      order = later.order;
      files = later.files ∙ one.files;
      lines = later.lines ∙ one.lines;
      down = λ m there. below (λ k. phase_of (line_at k y.customer.lines) ≡ Down) l m there
          (later.still_down l one.down) (later.down m);
      still_down = λ m there. later.still_down m (one.still m there);
      rests = λ m there. below (λ k. rest_on k y ≡ Nothing) l m there (later.still_none l (none_came p.rests l))
          (later.rests m);
      still_none = λ m there. later.still_none m (none_still p.rests l m there);
    }

-- ---- no stream is about a file

module _ (c : Customer) (order : IsInOrder c) (idle : (l : ℕ) → l < length c.lines → IsIdle (line_at l c.lines)) where
  no_partial : c.spool.partial ≡ []
  no_partial = at_files c.spool.partial refl
    where
      at_files : (fs : List PartialFile) → c.spool.partial ≡ fs → c.spool.partial ≡ []
      at_files [] e = e
      at_files (f ∷ fs) e = let found : partial_numbered f.number c.spool ≡ Some f =
          ap (find (λ g. g.number == f.number)) e
          ∙ ap (λ b. cond b (Some f) (find (λ g. g.number == f.number) fs)) (eq-eqb f.number f.number refl) in
          let comes = order.coherent.tied.come f.number f found in
          let none : None ≡ Some f.number = ap coming_file (sym (coherence.stream_is comes.line comes.stream c.lines
          ∙ receivers_idle c idle comes.line comes.stream)) ∙ comes.file in
          absurd (cc none)

  none_goes : (f : WholeFile) → Contains c.spool.whole f → f.state ≡ Sending → ⊥
  none_goes f at goes =
      let x = order.sent.go f at goes in
      let none : None ≡ Some f.number = sym (ap file_in (stream_is x.line x.stream c)
      ∙ senders_idle c idle x.line x.stream) ∙ x.about in
      cc none

-- ---- the loss of all lines

pub losses_leave : LossesLeaveFiles
losses_leave p order =
    let c = (after_losses p).customer in
    let lost = all_lost (length p.customer.lines) p (omega arith) order in
    let down : (l : ℕ) → l < length c.lines → phase_of (line_at l c.lines) ≡ Down = λ l there. lost.down l
    (omega arith) in
    let idle : (l : ℕ) → l < length c.lines → IsIdle (line_at l c.lines) = λ l there. lost.order.idle l there
    (ap is_up (down l there)) in
    record {
      files = lost.files;
      none_sent = none_goes c lost.order idle;
      partial = no_partial c lost.order idle;
      lines = lost.lines;
      down = down;
      idle = idle;
      rests = λ l there has_line. lost.rests l has_line;
    }
