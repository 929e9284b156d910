-- What a line sends, the end of its session, and new routes leave it so: the files that are being sent are exactly
-- those that a stream is about, each on one stream.
use Rattle.njh_customer.proofs.Words
use Words.{cases_eq, ℕ, zero, suc, Bool, true, false, inl, inr, List, [], length, set, get_or, replicate, find, Option}
use Words.{Some, None, refl, sym, ap, subst, arith, eqb-true, get_or-map, eqb-false, get_or-set_same, get_or-set_other}
use Words.{length-map, length-replicate, length-set, All-map, Contains, kind_of, destination_of, CustomerSpool}
use Words.{WholeFile, State, CustomerEntry, RouteEntry, destination_unrouted, has_lost_route, waits_in_state, held_file}
use Words.{all_ended, file_in, goes_by, is_refused, may_go_again, ready, spool_after_session, tried_again, Sender}
use Words.{Requested, EofSent, Aborting, is_ready, may_go, same_kind, is_sending, LineReply, replied_to, session_over}
use Words.{Customer, CustomerLine, config_of, fresh_customer, idle_line, line_at, no_customer_line, AreBeingSent}
use Words.{IsOnStream, IsAbout, LeadsByMoves, nowhere, onward, Sends, customer_with_routes, entry_with, Outgoing}
use Words.{has_file, outgoing, sender_on, streams_from_hub, streams_of, with_file_state, with_files, with_sender_on}
use Words.{next_block}
use Rattle.std.proofs.Common.{◌≡◌, ◌+◌, ◌<◌, ◌==◌, ◌&&◌, ◌⊎◌, ◌∷◌, ◌∙◌}
use Rattle.njh_stream.specs.declared.sender.Sender.TheVariants.{Idle, Sending}
use Rattle.njh_customer.proofs.FileListLaws.{any_numbered, copies, marked_numbers, same_numbered, but_states, found_one}
use Rattle.njh_customer.proofs.{FileListLaws.{WasOrIs, any_there, from_where}, IdleLines.fresh_lines_idle}
use Rattle.njh_customer.proofs.{IdleLines.senders_idle, OutgoingLaws.{over_so, reply_unmoved, stream_is}}
use Rattle.njh_customer.proofs.{Restated.{ended_where, without_open_same}, SendingMoves.{out_of, next_is, next_leads}}
use Rattle.njh_customer.proofs.SentByRecords.{number_of, carried, changed_carries, onward_carries, Carries}
use Rattle.njh_customer.proofs.StreamMoveLaws.{set_lines, set_streams, set_there, moved_one}
use Rattle.njh_spool.specs.declared.State.TheVariants as state
use Rattle.njh_line.specs.declared.verdict.LineReply.TheVariants as reply
use Rattle.njh_customer.specs.Moves as moves

-- one stream moves, and is about the file that it was about
one_moves : (l k : ℕ) (s t : Sender) (x y : Outgoing) → sender_on l k x ≡ s → file_in t ≡ file_in s
    → y ≡ with_sender_on l k t x → AreBeingSent x → AreBeingSent y
one_moves l k s t x y before same e =
    carried x y (subst (Carries x) (sym e) (onward_carries l k t x (same ∙ sym (ap (λ u. file_in u) before))))

-- ---- a stream asks for a file

-- a file that may go isn't being sent
goes_ready : (goes : WholeFile → Bool) (k : ℕ) (f : WholeFile) → may_go goes (kind_of k) f ≡ true
    → f.state ≡ state.Sending → ⊥
goes_ready goes k f may is = cc (sym may ∙ ap (λ s. is_ready s && (same_kind f.kind (kind_of k) && goes f)) is)

module _ (entry : CustomerEntry) (l k : ℕ) (f : WholeFile) (x : Outgoing) (line : l < length x.streams) (few : k < 8)
    (idle : sender_on l k x ≡ Idle) (found : find (may_go (goes_by entry l) (kind_of k)) x.files ≡ Some f)
    (sent : AreBeingSent x) where
  abbrev marked : Outgoing
  marked = with_files (with_file_state f.number state.Sending x.files) x

  abbrev asked : Outgoing
  asked = with_sender_on l k (Requested f.number) marked

  at_file : Contains x.files f
  at_file = (found_one (may_go (goes_by entry l) (kind_of k)) x.files f found).0

  -- no stream is about it
  none_about : (m j : ℕ) → IsAbout m j f.number x → ⊥
  none_about m j about =
      goes_ready (goes_by entry l) k f (found_one (may_go (goes_by entry l) (kind_of k)) x.files f found).1
      (sent.sending m j f.number f about at_file refl)

  -- a stream is about what it was about, or it is the one that asks
  abbrev WasAbout : ℕ → ℕ → ℕ → Type 0
  WasAbout m j n = IsAbout m j n x ⊎ ((m ≡ l) × (j ≡ k) × (n ≡ f.number))

  was_about : (m j n : ℕ) → IsAbout m j n asked → WasAbout m j n
  was_about m j n about = elim (moved_one m j l k (Requested f.number) marked) [
    | inl same ↦ inl (sym (ap (λ t. file_in t) same) ∙ about)
    | inr one ↦ inr (one.0, one.1, number_of n f.number (sym about ∙ ap (λ t. file_in t) one.2))
  ]

  -- one that was about a file still is
  still_about : (m j n : ℕ) → IsAbout m j n x → IsAbout m j n asked
  still_about m j n about = elim (moved_one m j l k (Requested f.number) marked) [
    | inl same ↦ ap (λ t. file_in t) same ∙ about
    | inr one ↦ absurd (cc (sym about ∙ ap (λ i. file_in (sender_on i j x)) one.0
        ∙ ap (λ i. file_in (sender_on l i x)) one.1 ∙ ap (λ t. file_in t) idle))
  ]

  asks_about : IsAbout l k f.number asked
  asks_about = ap (λ t. file_in t) (set_there l k (Requested f.number) marked line (omega (arith, sent.eight l line)))

  -- a file of these is the one that is asked for, or was there
  from_asked : (g : WholeFile) → Contains asked.files g → WasOrIs (λ h. h.number == f.number)
      (λ h. record h { state = state.Sending }) x.files g
  from_asked = from_where (λ h. h.number == f.number) (λ h. record h { state = state.Sending }) x.files

  asked_there : (m j n : ℕ) → IsAbout m j n asked → has_file n asked ≡ true
  asked_there m j n about =
      let there : any_numbered n x.files ≡ true = elim (was_about m j n about) [
        | inl was ↦ sent.there m j n was
        | inr asks ↦ ap (λ i. any_numbered i x.files) asks.2 ∙ any_there f.number x.files (f, at_file, refl)
      ] in
      same_numbered n asked.files x.files (marked_numbers f.number state.Sending x.files) ∙ there

  asked_sending : (m j n : ℕ) (g : WholeFile) → IsAbout m j n asked → Contains asked.files g → g.number ≡ n
      → g.state ≡ state.Sending
  asked_sending m j n g about at same = elim (from_asked g at) [
    | inl (h, there, e, is) ↦ ap (λ i. i.state) is
    | inr (there, other) ↦ elim (was_about m j n about) [
      | inl was ↦ sent.sending m j n g was there same
      | inr asks ↦ absurd (eqb-false g.number f.number other (same ∙ asks.2))
    ]
  ]

  asked_apart : (i h m j n : ℕ) → IsAbout i h n asked → IsAbout m j n asked → (i ≡ m) × (h ≡ j)
  asked_apart i h m j n first second = at_streams (was_about i h n first) (was_about m j n second)
    where
      at_streams : WasAbout i h n → WasAbout m j n → (i ≡ m) × (h ≡ j)
      at_streams (inl one) (inl other) = sent.apart i h m j n one other
      at_streams (inl one) (inr asks) = absurd (none_about i h (one ∙ ap Some asks.2))
      at_streams (inr asks) (inl other) = absurd (none_about m j (other ∙ ap Some asks.2))
      at_streams (inr one) (inr other) = (one.0 ∙ sym other.0, one.1 ∙ sym other.1)

  asked_go : (g : WholeFile) → Contains asked.files g → g.state ≡ state.Sending → IsOnStream g.number asked
  asked_go g at is = elim (from_asked g at) [
    | inl (h, there, e, same) ↦
        let about = asks_about ∙ ap Some (sym (ap (λ i. i.number) same ∙ eqb-true h.number f.number e)) in
        record { line = l; stream = k; about = about }
    | inr (there, other) ↦ let goes = sent.go g there is in let about = still_about goes.line goes.stream g.number
        goes.about in
        record { line = goes.line; stream = goes.stream; about = about }
  ]

  sent_asked : AreBeingSent asked
  sent_asked = record {
    eight = λ m there. set_streams m l k (Requested f.number) marked
        ∙ sent.eight m (omega (arith, there, set_lines l k (Requested f.number) marked));
    there = asked_there;
    sending = asked_sending;
    apart = asked_apart;
    go = asked_go;
  }

-- ---- what goes out in a new block

pub sent_by_sends : (entry : CustomerEntry) (l : ℕ) (x y : Outgoing) → l < length x.streams → Sends entry l x y
    → AreBeingSent x → AreBeingSent y
sent_by_sends entry l x y line (moves.gives_up k before e) sent = one_moves l k Aborting Idle x y before refl e sent
sent_by_sends entry l x y line (moves.asks k f few before found e) sent =
    subst AreBeingSent (sym e) (sent_asked entry l k f x line few before found sent)
sent_by_sends entry l x y line (moves.goes_on k n place r before found e) sent =
    one_moves l k (Sending n place) (Sending n (place + 1)) x y before refl e sent
sent_by_sends entry l x y line (moves.ends k n place before found e) sent =
    one_moves l k (Sending n place) (EofSent n) x y before refl e sent

-- there are as many lines
sends_lines : (entry : CustomerEntry) (l : ℕ) (x y : Outgoing) → Sends entry l x y → length y.streams ≡ length x.streams
sends_lines entry l x y (moves.gives_up k before e) = ap (λ z. length z.streams) e ∙ set_lines l k Idle x
sends_lines entry l x y (moves.asks k f few before found e) =
    ap (λ z. length z.streams) e ∙ set_lines l k (Requested f.number)
    (with_files (with_file_state f.number state.Sending x.files) x)
sends_lines entry l x y (moves.goes_on k n place r before found e) =
    ap (λ z. length z.streams) e ∙ set_lines l k (Sending n (place + 1)) x
sends_lines entry l x y (moves.ends k n place before found e) = ap (λ z. length z.streams) e ∙ set_lines l k
    (EofSent n) x

pub sent_by_all : (entry : CustomerEntry) (l : ℕ) (x y : Outgoing) → l < length x.streams
    → LeadsByMoves (Sends entry l) x y → AreBeingSent x → AreBeingSent y
sent_by_all entry l _ _ line (nowhere x) sent = sent
sent_by_all entry l _ _ line (onward x y z move later) sent =
    sent_by_all entry l y z (omega (arith, sends_lines entry l x y move)) later
    (sent_by_sends entry l x y line move sent)

-- ---- what a line sends

pub sent_replied : (l : ℕ) (r : LineReply) (c : Customer) → l < length c.lines → AreBeingSent (outgoing c)
    → AreBeingSent (outgoing (replied_to l r c).after)
sent_replied l (reply.Next or_ack0) c there sent =
    let base = streams_from_hub c.lines in
    let full = next_block c.entry l c.spool (line_at l c.lines) in
    subst AreBeingSent (sym (next_is l or_ack0 c)) (sent_by_all c.entry l (outgoing c) (out_of l base full)
    (omega (arith, there, length-map c.lines (λ x. x.senders))) (next_leads l c there) sent)
sent_replied l r c there sent = subst AreBeingSent (sym (reply_unmoved l r c refl)) sent

-- ---- the end of a session

-- none of some streams is about a number
abbrev NoneAbout : ℕ → List Sender → Type 0
NoneAbout n senders = (k : ℕ) → file_in (get_or senders k Idle) ≡ Some n → ⊥

none_more : (n : ℕ) (s : Sender) (more : List Sender) → (file_in s ≡ Some n → ⊥) → NoneAbout n more
    → NoneAbout n (s ∷ more)
none_more n s more first rest zero about = first about
none_more n s more first rest (suc k) about = rest k about

-- after the end of one stream's session a file was there, or it was what the stream was about
one_ended : (s : Sender) (spool : CustomerSpool) (g : WholeFile) → Contains (spool_after_session s spool).whole g
    → (Contains spool.whole g × (file_in s ≡ Some g.number → ⊥))
    ⊎ ((file_in s ≡ Some g.number) × (g.state ≡ state.Ready))
one_ended s spool g at = at_about (file_in s) at
  where
    at_mark : (n : ℕ) → WasOrIs (λ h. h.number == n) (λ h. record h { state = state.Ready }) spool.whole g
        → (Contains spool.whole g × (Some n ≡ Some g.number → ⊥)) ⊎ ((Some n ≡ Some g.number) × (g.state ≡ state.Ready))
    at_mark n (inl (h, there, e, is)) =
        inr (ap Some (sym (ap (λ i. i.number) is ∙ eqb-true h.number n e)), ap (λ i. i.state) is)
    at_mark n (inr (there, e)) = inl (there, λ about. eqb-false g.number n e (sym (number_of n g.number about)))

    at_about : (o : Option ℕ) → Contains (ended_where o spool).whole g
        → (Contains spool.whole g × (o ≡ Some g.number → ⊥)) ⊎ ((o ≡ Some g.number) × (g.state ≡ state.Ready))
    at_about None at = inl (at, λ about. cc about)
    at_about (Some n) at = at_mark n (from_where (λ h. h.number == n)
        (λ h. record h { state = state.Ready }) spool.whole g at)

all_ended_ones :
    (senders : List Sender) (spool : CustomerSpool) (g : WholeFile) → Contains (all_ended senders spool).whole g
    → g.state ≡ state.Sending → Contains spool.whole g × NoneAbout g.number senders
all_ended_ones [] spool g at is = (at, λ k about. cc about)
all_ended_ones (s ∷ more) spool g at is =
    let rest = all_ended_ones more (spool_after_session s spool) g at is in
    elim (one_ended s spool g rest.0) [
      | inl (there, none) ↦ (there, none_more g.number s more none rest.1)
      | inr (about, waits) ↦ absurd (cc (sym is ∙ waits))
    ]

-- a file that no stream is about stays as it is
unended_ones : (senders : List Sender) (spool : CustomerSpool) (g : WholeFile)
    → Contains (all_ended senders spool).whole g → NoneAbout g.number senders → Contains spool.whole g
unended_ones [] spool g at none = at
unended_ones (s ∷ more) spool g at none =
    elim (one_ended s spool g (unended_ones more (spool_after_session s spool) g at (λ k. none (suc k)))) [
      | inl was ↦ was.0
      | inr (about, waits) ↦ absurd (none 0 about)
    ]

module _ (l : ℕ) (c : Customer) (line : l < length c.lines) (sent : AreBeingSent (outgoing c)) where
  abbrev before_it : Outgoing
  before_it = outgoing c

  abbrev after_it : Outgoing
  after_it = outgoing (session_over l c)

  abbrev own : List Sender
  own = (line_at l c.lines).senders

  abbrev idles : List Sender
  idles = replicate (length (streams_of l before_it)) Idle

  own_streams : streams_of l before_it ≡ own
  own_streams = get_or-map (λ y. y.senders) c.lines l no_customer_line

  inside : l < length before_it.streams
  inside = omega (arith, length-map c.lines (λ x. x.senders))

  streams_now : after_it.streams ≡ set before_it.streams l idles
  streams_now = (over_so l c).streams

  files_now : after_it.files ≡ (tried_again c.entry l (all_ended own c.spool)).whole
  files_now = (without_open_same (line_at l c.lines).receivers (tried_again c.entry l (all_ended own c.spool))).whole

  line_now : streams_of l after_it ≡ idles
  line_now = ap (λ lines. get_or lines l []) streams_now ∙ get_or-set_same before_it.streams l idles [] inside

  other_line : (m : ℕ) → (m ≡ l → ⊥) → streams_of m after_it ≡ streams_of m before_it
  other_line m apart = ap (λ lines. get_or lines m []) streams_now
      ∙ get_or-set_other before_it.streams l m idles [] apart

  -- a stream that is about a file is of another line, and was about it
  about_before : (m k n : ℕ) → IsAbout m k n after_it → (m ≡ l → ⊥) × IsAbout m k n before_it
  about_before m k n about = (apart, sym (ap (λ senders. file_in (get_or senders k Idle)) (other_line m apart)) ∙ about)
    where
      apart : m ≡ l → ⊥
      apart same = cc (sym about ∙ ap (λ i. file_in (sender_on i k after_it)) same
          ∙ ap (λ senders. file_in (get_or senders k Idle)) line_now
          ∙ ap (λ s. file_in s) (copies (length (streams_of l before_it)) k Idle))

  -- so none of the line's was
  none_own : (m k n : ℕ) → IsAbout m k n after_it → NoneAbout n own
  none_own m k n about j of_own =
      let was = about_before m k n about in
      was.0 (sent.apart m k l j n was.1 (ap (λ senders. file_in (get_or senders j Idle)) own_streams ∙ of_own)).0

  from_tried : (g : WholeFile) → Contains after_it.files g
      → WasOrIs (may_go_again c.entry l) ready (all_ended own c.spool).whole g
  from_tried g at = from_where (may_go_again c.entry l) ready (all_ended own c.spool).whole g
      (subst (λ fs. Contains fs g) files_now at)

  over_streams : (m : ℕ) → length (streams_of m after_it) ≡ length (streams_of m before_it)
  over_streams m = elim (cases_eq m l) [
    | inl same ↦
        ap (λ i. length (streams_of i after_it)) same ∙ ap length line_now ∙ length-replicate {A = Sender}
        (length (streams_of l before_it)) Idle ∙ ap (λ i. length (streams_of i before_it)) (sym same)
    | inr apart ↦ ap length (other_line m apart)
  ]

  -- a file that a stream is about was there as it is
  over_same : (m k n : ℕ) (g : WholeFile) → IsAbout m k n after_it → g.number ≡ n
      → WasOrIs (may_go_again c.entry l) ready (all_ended own c.spool).whole g → Contains c.spool.whole g
  over_same m k n g about same = at_tried
    where
      there : (f : WholeFile) → Contains (all_ended own c.spool).whole f → f.number ≡ n → Contains c.spool.whole f
      there f at number = unended_ones own c.spool f at (subst (λ i. NoneAbout i own) (sym number)
          (none_own m k n about))

      at_tried : WasOrIs (may_go_again c.entry l) ready (all_ended own c.spool).whole g → Contains c.spool.whole g
      at_tried (inl (f, at, e, is)) =
          let number = sym (ap (λ i. i.number) is) ∙ same in
          absurd (cc (sym e ∙ ap (λ s. is_refused s && goes_by c.entry l f)
          (sent.sending m k n f (about_before m k n about).1 (there f at number) number)))
      at_tried (inr (at, e)) = there g at same

  -- one that is being sent was there, and no stream of the line is about it
  over_sent : (g : WholeFile) → g.state ≡ state.Sending
      → WasOrIs (may_go_again c.entry l) ready (all_ended own c.spool).whole g
      → Contains c.spool.whole g × NoneAbout g.number own
  over_sent g is (inl (f, at, e, same)) = absurd (cc (sym is ∙ ap (λ i. i.state) same))
  over_sent g is (inr (at, e)) = all_ended_ones own c.spool g at is

  over_on : (g : WholeFile) → NoneAbout g.number own → (m k : ℕ) → IsAbout m k g.number before_it
      → IsAbout m k g.number after_it
  over_on g none m k about = ap (λ senders. file_in (get_or senders k Idle)) (other_line m apart) ∙ about
    where
      apart : m ≡ l → ⊥
      apart same = none k (sym (ap (λ senders. file_in (get_or senders k Idle)) own_streams)
          ∙ sym (ap (λ i. file_in (sender_on i k before_it)) same) ∙ about)

  over_carries : Carries before_it after_it
  over_carries = record {
    lines = ap length streams_now ∙ length-set before_it.streams l idles;
    streams = over_streams;
    back = λ m k n about. (about_before m k n about).1;
    there = λ m k n about there. same_numbered n after_it.files before_it.files
        (but_states after_it.files before_it.files (over_so l c).files) ∙ there;
    same = λ m k n g about at is. over_same m k n g about is (from_tried g at);
    sent = λ g at is. (over_sent g is (from_tried g at)).0;
    on = λ g at is. over_on g (over_sent g is (from_tried g at)).1;
  }

pub sent_over : (l : ℕ) (c : Customer) → l < length c.lines → AreBeingSent (outgoing c)
    → AreBeingSent (outgoing (session_over l c))
sent_over l c line sent = carried (outgoing c) (outgoing (session_over l c)) (over_carries l c line sent) sent

-- ---- new routes

-- a file that waits isn't being sent
waiting_idle : (s : State) (b : Bool) → (waits_in_state s && b) ≡ true → is_sending s ≡ false
waiting_idle state.Sending b e = absurd (cc e)
waiting_idle _ b e = refl

pub sent_routes : (routes : List RouteEntry) (c : Customer) → AreBeingSent (outgoing c)
    → AreBeingSent (outgoing (customer_with_routes routes c))
sent_routes routes c sent =
    let entry = entry_with routes c.entry in
    carried (outgoing c) (outgoing (customer_with_routes routes c))
    (changed_carries (has_lost_route entry) held_file (outgoing c) (λ f. refl)
    (λ f. waiting_idle f.state (destination_unrouted entry (destination_of f.kind f.records))) (λ f e. refl) sent) sent

-- ---- a customer that was just opened

pub sent_fresh : (entry : CustomerEntry) → AreBeingSent (outgoing (fresh_customer entry))
sent_fresh entry = record {
  eight = λ l there. ap (λ (senders : List Sender). length senders)
      (get_or-map (λ y. y.senders) c.lines l no_customer_line) ∙ All-map (λ (y : CustomerLine). length y.senders ≡ 8)
      (λ line. idle_line (config_of entry line) line.streams) entry.lines (λ i d h. refl) l no_customer_line
      (omega (arith, there, length-map c.lines (λ y. y.senders)));
  there = λ l k n about. absurd (none_about l k n about);
  sending = λ l k n f about at same. absurd (none_about l k n about);
  apart = λ l k m j n first second. absurd (none_about l k n first);
  go = λ f at is. absurd (omega arith);
}
  where
    c : Customer
    c = fresh_customer entry

    none_about : (l k n : ℕ) → IsAbout l k n (outgoing c) → ⊥
    none_about l k n about =
        cc (sym about ∙ ap (λ s. file_in s) (stream_is l k c) ∙ senders_idle c (fresh_lines_idle entry) l k)
