-- What a record that comes leaves of this: which files are being sent are those that a stream from the hub is about.
use Rattle.njh_customer.proofs.Words
use Words.{cond_both, ne_eqb, ℕ, Bool, true, false, cond, not, inl, inr, List, [], length, map, filter, get_or}
use Words.{count_by, Option, Some, None, refl, sym, ap, subst, not-suc-le-zero, arith, eqb-true, eq-eqb, not-true}
use Words.{not_from_false, eqb-false, Contains-append_left, Contains-push_cases, sum_by_push, Contains, Item, WholeFile}
use Words.{State, CustomerEntry, counted_at, file_in, Sender, aborted_where, file_in_state, is_about, is_busy}
use Words.{is_of_name, is_sending, may_change, state_after_reroute, with_new_destination, without_file, after_record}
use Words.{Customer, AreBeingSent, IsAbout, Acts, busy_numbers, with_changed, without_cancelled, without_files}
use Words.{Outgoing, each_stream, has_file, outgoing, sender_on, streams_of, with_arrival, with_file_state, with_files}
use Words.{with_sender_on, without_numbered, Command, CommandMoves, GivenOrder, User, customer_after_order}
use Rattle.std.proofs.Common.{◌≡◌, ◌≤◌, ◌&&◌, ◌==◌, ◌∷◌, ◌++◌, ◌∙◌}
use Rattle.njh_stream.specs.declared.sender.Sender.TheVariants.{Idle, Sending}
use Rattle.njh_customer.proofs.{ActingMoves.acts_so, FileLimits.AreDistinct, FileListLaws.{any_numbered, from_filter}}
use Rattle.njh_customer.proofs.GivenOrders.{order_moves_so}
use Rattle.njh_customer.proofs.FileListLaws.{same_numbered, into_map, Has, WasOrIs, first_or_later, found_numbered}
use Rattle.njh_customer.proofs.FileListLaws.{from_where, has_one, into_filter, passes_filter, any_there, changed_where}
use Rattle.njh_customer.proofs.{RecordsChange.{without_files_files, both_are}, StreamMoveLaws.each_lines}
use Rattle.njh_customer.proofs.StreamMoveLaws.{each_streams, set_lines, set_streams, set_where_about, IsOne}
use Rattle.njh_customer.proofs.StreamMoveLaws.{aborted_none, all_give_up, busy_one, each_at, moved_one, was}
use Rattle.njh_spool.specs.declared.State.TheVariants as state
use Rattle.njh_customer.specs.Moves as moves

pub number_of : (a b : ℕ) → Some a ≡ Some b → a ≡ b
number_of a b e = cc e

one_counts : (n : ℕ) (f : WholeFile) → f.number ≡ n → ◌≡◌ {A = ℕ} (cond (f.number == n) 1 0) 1
one_counts n f e = ap (λ b. cond b 1 0) (eq-eqb f.number n e)

-- one that is there is counted
counted : (n : ℕ) (fs : List WholeFile) (g : WholeFile) → Contains fs g → g.number ≡ n
    → 1 ≤ count_by (λ f. f.number == n) fs
counted n fs g at is =
    counted_at (λ f. f.number == n) fs at.0 g at.1 (eq-eqb (get_or fs at.0 g).number n (ap (λ h. h.number) at.2 ∙ is))

-- two of a number are one
same_file : (n : ℕ) (fs : List WholeFile) (f g : WholeFile) → count_by (λ h. h.number == n) fs ≤ 1 → Contains fs f
    → Contains fs g → f.number ≡ n → g.number ≡ n → f ≡ g
same_file n fs f g few at there is one = let both : Some f ≡ Some g =
    sym (found_numbered (λ (h : WholeFile). h.number) fs f n few at is)
    ∙ found_numbered (λ (h : WholeFile). h.number) fs g n few there one in cc both

-- ---- what is so of every move

-- No stream is about a file that it wasn't about; a file that one is about is there still, as it was; and a file
-- that is being sent was there as it is, and the stream that was about it is so still.
pub record Carries (x y : Outgoing) : Type 0 where
  pub lines : length y.streams ≡ length x.streams
  pub streams : (l : ℕ) → length (streams_of l y) ≡ length (streams_of l x)
  pub back : (l k n : ℕ) → IsAbout l k n y → IsAbout l k n x
  pub there : (l k n : ℕ) → IsAbout l k n y → has_file n x ≡ true → has_file n y ≡ true
  pub same : (l k n : ℕ) (f : WholeFile) → IsAbout l k n y → Contains y.files f → f.number ≡ n → Contains x.files f
  pub sent : (f : WholeFile) → Contains y.files f → f.state ≡ state.Sending → Contains x.files f
  pub on : (f : WholeFile) → Contains y.files f → f.state ≡ state.Sending → (l k : ℕ) → IsAbout l k f.number x
      → IsAbout l k f.number y

pub carried : (x y : Outgoing) → Carries x y → AreBeingSent x → AreBeingSent y
carried x y c are = record {
  eight = λ l inside. c.streams l ∙ are.eight l (omega arith);
  there = λ l k n about. c.there l k n about (are.there l k n (c.back l k n about));
  sending = λ l k n f about at is. are.sending l k n f (c.back l k n about) (c.same l k n f about at is) is;
  apart = λ l k m j n about other. are.apart l k m j n (c.back l k n about) (c.back m j n other);
  go = λ f at sending. let g = are.go f (c.sent f at sending) sending in
      record { line = g.line; stream = g.stream; about = c.on f at sending g.line g.stream g.about };
}

-- ---- a file comes

pub arrival_carries : (f : WholeFile) (x : Outgoing) → (f.state ≡ state.Sending → ⊥) → AreDistinct (x.files ++ f ∷ [])
    → AreBeingSent x → Carries x (with_arrival f x)
arrival_carries f x waits apart are = record {
  lines = refl;
  streams = λ l. refl;
  back = λ l k n about. about;
  there = λ l k n about there. let found = has_one n x.files there in
      any_there n (x.files ++ f ∷ []) (found.0, Contains-append_left x.files (f ∷ []) found.0 found.1, found.2);
  same = λ l k n g about at is. elim (Contains-push_cases x.files f g at) [
    | inl old ↦ old
    | inr new ↦ no_more n (has_one n x.files (are.there l k n about)) (ap (λ h. h.number) new ∙ is)
  ];
  sent = λ g at sending. elim (Contains-push_cases x.files f g at) [
    | inl old ↦ old
    | inr new ↦ absurd (waits (ap (λ h. h.state) new ∙ sending))
  ];
  on = λ g at sending l k about. about;
}
  where
    -- a stream is about another of its number
    no_more : {A : Type 0} (n : ℕ) → Has n x.files → f.number ≡ n → A
    no_more n (g, there, is) one = absurd (omega (
      arith,
      apart n,
      sum_by_push (λ h. cond (h.number == n) 1 0) x.files f,
      one_counts n f one,
      counted n x.files g there is,
    ))

-- ---- a stream moves

-- it is about the same file
pub onward_carries : (l m : ℕ) (s : Sender) (x : Outgoing) → file_in s ≡ file_in (sender_on l m x)
    → Carries x (with_sender_on l m s x)
onward_carries l m s x e = record {
  lines = set_lines l m s x;
  streams = λ j. set_streams j l m s x;
  back = λ j k n about. sym (same_about j k (moved_one j k l m s x)) ∙ about;
  there = λ j k n about there. there;
  same = λ j k n f about at is. at;
  sent = λ f at sending. at;
  on = λ f at sending j k about. same_about j k (moved_one j k l m s x) ∙ about;
}
  where
    same_about : (j k : ℕ) → IsOne j k l m s x (with_sender_on l m s x)
        → file_in (sender_on j k (with_sender_on l m s x)) ≡ file_in (sender_on j k x)
    same_about j k (inl same) = ap (λ t. file_in t) same
    same_about j k (inr one) =
        ap (λ t. file_in t) one.2 ∙ e ∙ ap (λ t. file_in t) (sym (was j k l m (sender_on l m x) x refl one.0 one.1))

-- It has none then, and of the files only those of its file's number change: none of them is being sent.
ended_carries : (l m n : ℕ) (s : Sender) (files : List WholeFile) (x : Outgoing) → IsAbout l m n x → file_in s ≡ None
    → ((f : WholeFile) → Contains files f → (f.number ≡ n → ⊥) → Contains x.files f)
    → ((f : WholeFile) → Contains files f → f.state ≡ state.Sending → Contains x.files f × (f.number ≡ n → ⊥))
    → ((f : WholeFile) → Contains x.files f → (f.number ≡ n → ⊥) → Contains files f)
    → AreBeingSent x → Carries x (with_sender_on l m s (with_files files x))
ended_carries l m n s files x before none old sent kept are = record {
  lines = set_lines l m s (with_files files x);
  streams = λ j. set_streams j l m s (with_files files x);
  back = back;
  there = λ j k o about there. let found = has_one o x.files there in
      any_there o files (found.0, kept found.0 found.1 (λ e. other j k o about (sym found.2 ∙ e)), found.2);
  same = λ j k o f about at is. old f at (λ e. other j k o about (sym is ∙ e));
  sent = λ f at sending. (sent f at sending).0;
  on = λ f at sending j k about. on_still f (sent f at sending).1 j k about (moved_one j k l m s (with_files files x));
}
  where
    now : Outgoing
    now = with_sender_on l m s (with_files files x)

    back : (j k o : ℕ) → IsAbout j k o now → IsAbout j k o x
    back j k o about = at_one (moved_one j k l m s (with_files files x))
      where
        at_one : IsOne j k l m s (with_files files x) now → IsAbout j k o x
        at_one (inl same) = sym (ap (λ t. file_in t) same) ∙ about
        at_one (inr one) = absurd (cc (sym about ∙ ap (λ t. file_in t) one.2 ∙ none))

    -- it was the one stream about its file
    other : (j k o : ℕ) → IsAbout j k o now → o ≡ n → ⊥
    other j k o about e =
        let place = are.apart j k l m n (back j k o about ∙ ap Some e) before in
        let there : sender_on j k now ≡ s = was j k l m s now
        (set_where_about l m n s (with_files files x) before) place.0 place.1 in
        cc (sym about ∙ ap (λ t. file_in t) there ∙ none)

    on_still : (f : WholeFile) → (f.number ≡ n → ⊥) → (j k : ℕ) → IsAbout j k f.number x
        → IsOne j k l m s (with_files files x) now → IsAbout j k f.number now
    on_still f another j k about (inl same) = ap (λ t. file_in t) same ∙ about
    on_still f another j k about (inr one) = absurd (another (number_of f.number n (sym about ∙ ap (λ t. file_in t)
        (was j k l m (sender_on l m x) x refl one.0 one.1) ∙ before)))

refused_carries : (l m n : ℕ) (s : Sender) (x : Outgoing) → IsAbout l m n x → file_in s ≡ None → AreBeingSent x
    → Carries x (with_sender_on l m s (with_files (with_file_state n state.Refused x.files) x))
refused_carries l m n s x before none are =
    ended_carries l m n s (with_file_state n state.Refused x.files) x before none (λ g at. old g (from g at))
    (λ g at. sent g (from g at)) kept are
  where
    is_it : WholeFile → Bool
    is_it f = f.number == n

    refused : WholeFile → WholeFile
    refused f = record f { state = state.Refused }

    from : (g : WholeFile) → Contains (with_file_state n state.Refused x.files) g → WasOrIs is_it refused x.files g
    from = from_where is_it refused x.files

    old : (g : WholeFile) → WasOrIs is_it refused x.files g → (g.number ≡ n → ⊥) → Contains x.files g
    old g (inl (f, at, e, is)) another = absurd (another (ap (λ h. h.number) is ∙ eqb-true f.number n e))
    old g (inr (at, e)) another = at

    sent : (g : WholeFile) → WasOrIs is_it refused x.files g → g.state ≡ state.Sending
        → Contains x.files g × (g.number ≡ n → ⊥)
    sent g (inl (f, at, e, is)) sending = absurd (cc (sym sending ∙ ap (λ h. h.state) is))
    sent g (inr (at, e)) sending = (at, eqb-false g.number n e)

    kept : (f : WholeFile) → Contains x.files f → (f.number ≡ n → ⊥)
        → Contains (with_file_state n state.Refused x.files) f
    kept f at another = subst (Contains (with_file_state n state.Refused x.files))
        (cond_both (is_it f) (refused f) f (λ g. g ≡ f) (λ e. absurd (another (eqb-true f.number n e))) (λ _. refl))
        (into_map (λ g. cond (is_it g) (refused g) g) x.files f at)

completed_carries : (l m n : ℕ) (s : Sender) (x : Outgoing) → IsAbout l m n x → file_in s ≡ None → AreBeingSent x
    → Carries x (with_sender_on l m s (with_files (without_numbered n x.files) x))
completed_carries l m n s x before none are =
    ended_carries l m n s (without_numbered n x.files) x before none (λ f at another. from_filter other x.files f at)
    (λ f at sending. (
      from_filter other x.files f at,
      λ e. cc (sym (not-true (f.number == n) (passes_filter other x.files f at)) ∙ eq-eqb f.number n e),
    )) (λ f at another. into_filter other x.files f at (not_from_false (f.number == n) (ne_eqb f.number n another))) are
  where
    other : WholeFile → Bool
    other f = not (f.number == n)

-- ---- files change that aren't being sent, and aren't then

pub changed_carries : (p : WholeFile → Bool) (change : WholeFile → WholeFile) (x : Outgoing)
    → ((f : WholeFile) → (change f).number ≡ f.number) → ((f : WholeFile) → p f ≡ true → is_sending f.state ≡ false)
    → ((f : WholeFile) → p f ≡ true → is_sending (change f).state ≡ false) → AreBeingSent x
    → Carries x (with_files (map (λ f. cond (p f) (change f) f) x.files) x)
changed_carries p change x numbers idle still are = record {
  lines = refl;
  streams = λ l. refl;
  back = λ l k n about. about;
  there = λ l k n about there. same_numbered n (map (λ f. cond (p f) (change f) f) x.files) x.files
      (changed_where (λ f. f.number) p change x.files numbers) ∙ there;
  same = λ l k n g about at is. same l k n g about is (from_where p change x.files g at);
  sent = λ g at sending. sent g sending (from_where p change x.files g at);
  on = λ g at sending l k about. about;
}
  where
    same : (l k n : ℕ) (g : WholeFile) → IsAbout l k n x → g.number ≡ n → WasOrIs p change x.files g
        → Contains x.files g
    same l k n g about one (inl (f, at, e, is)) =
        let sending = are.sending l k n f about at (sym (numbers f) ∙ sym (ap (λ h. h.number) is) ∙ one) in
        absurd (cc (sym (idle f e) ∙ ap is_sending sending))
    same l k n g about one (inr (at, e)) = at

    sent : (g : WholeFile) → g.state ≡ state.Sending → WasOrIs p change x.files g → Contains x.files g
    sent g sending (inl (f, at, e, is)) =
        absurd (cc (sym (still f e) ∙ ap (λ h. is_sending h.state) (sym is) ∙ ap is_sending sending))
    sent g sending (inr (at, e)) = at

-- by a command, of those that aren't being sent
command_carries : (p : WholeFile → Bool) (change : WholeFile → WholeFile) (x : Outgoing)
    → ((f : WholeFile) → (change f).number ≡ f.number) → ((f : WholeFile) → is_sending f.state ≡ false
    → is_sending (change f).state ≡ false) → AreBeingSent x → Carries x (with_changed p change x)
command_carries p change x numbers idle =
    changed_carries (may_change p) change x numbers (λ f e. (both_are (p f) (is_sending f.state) e).1)
    (λ f e. idle f (both_are (p f) (is_sending f.state) e).1)

reroute_idle : (s : State) → is_sending s ≡ false → is_sending (state_after_reroute s) ≡ false
reroute_idle state.Sending e = e
reroute_idle _ e = refl

-- ---- files are cancelled

-- a stream that is about one of them has none
about_left : (m n : ℕ) (s : Sender) → file_in (without_file m s) ≡ Some n → (file_in s ≡ Some n) × (m ≡ n → ⊥)
about_left m n s about = at_file (file_in s) refl about
  where
    at_test : (q : ℕ) (b : Bool) → file_in s ≡ Some q → (q == m) ≡ b → file_in (aborted_where b s) ≡ Some n
        → (file_in s ≡ Some n) × (m ≡ n → ⊥)
    at_test q true e same has = absurd (cc (sym has ∙ aborted_none s))
    at_test q false e differ has = (has, λ one. cc (sym differ ∙ eq-eqb q m (number_of q n (sym e ∙ has) ∙ sym one)))

    at_file : (o : Option ℕ) → file_in s ≡ o → file_in (aborted_where (is_about m o) s) ≡ Some n
        → (file_in s ≡ Some n) × (m ≡ n → ⊥)
    at_file None e has = absurd (cc (sym has ∙ e))
    at_file (Some q) e has = at_test q (q == m) e refl has

all_left : (l k n : ℕ) (ns : List ℕ) (x : Outgoing) → IsAbout l k n (without_files ns x)
    → IsAbout l k n x × (Contains ns n → ⊥)
all_left l k n [] x about = (about, λ at. not-suc-le-zero at.1)
all_left l k n (m ∷ ns) x about =
    let later = all_left l k n ns (each_stream (without_file m) x) about in
    let first = about_left m n (sender_on l k x) (sym (ap (λ t. file_in t) (each_at l k m x)) ∙ later.0) in
    (first.0, λ at. elim (first_or_later m ns n at) [ inl is ↦ first.1 is | inr there ↦ later.1 there ])

all_stay : (l k n : ℕ) (ns : List ℕ) (x : Outgoing) → IsAbout l k n x → (Contains ns n → ⊥)
    → IsAbout l k n (without_files ns x)
all_stay l k n ns x about none = elim (all_give_up l k ns x) [
  | inl same ↦ ap (λ t. file_in t) same ∙ about
  | inr gives ↦ absurd (none (subst (λ m. Contains ns m) (number_of gives.0 n (sym gives.2 ∙ about)) gives.1))
]

all_lines : (ns : List ℕ) (x : Outgoing) → length (without_files ns x).streams ≡ length x.streams
all_lines [] x = refl
all_lines (n ∷ ns) x = all_lines ns (each_stream (without_file n) x) ∙ each_lines (without_file n) x

all_streams : (ns : List ℕ) (l : ℕ) (x : Outgoing) → length (streams_of l (without_files ns x)) ≡ length
    (streams_of l x)
all_streams [] l x = refl
all_streams (n ∷ ns) l x = all_streams ns l (each_stream (without_file n) x) ∙ each_streams (without_file n) l x

cancelled_carries : (p : WholeFile → Bool) (x : Outgoing) → AreDistinct x.files → AreBeingSent x
    → Carries x (without_cancelled p x)
cancelled_carries p x apart are = record {
  lines = all_lines busy cut;
  streams = λ l. all_streams busy l cut;
  back = λ l k n about. (all_left l k n busy cut about).0;
  there = λ l k n about there. ap (any_numbered n) files ∙ stays_there l k n (all_left l k n busy cut about)
      (has_one n x.files there);
  same = λ l k n f about at is. from_filter stays x.files f (among f at);
  sent = λ f at sending. from_filter stays x.files f (among f at);
  on = λ f at sending l k about. all_stay l k f.number busy cut about
      (λ taken. not_taken f (among f at) (busy_one p x.files f.number taken));
}
  where
    stays : WholeFile → Bool
    stays f = not (p f)

    busy : List ℕ
    busy = busy_numbers p x.files

    cut : Outgoing
    cut = with_files (filter stays x.files) x

    files : (without_cancelled p x).files ≡ filter stays x.files
    files = without_files_files busy cut

    among : (f : WholeFile) → Contains (without_cancelled p x).files f → Contains (filter stays x.files) f
    among f at = subst (λ fs. Contains fs f) files at

    -- a file that passes and is being sent is busy
    is_taken : (f : WholeFile) → Contains x.files f → p f ≡ true → f.state ≡ state.Sending → Contains busy f.number
    is_taken f at passing sending = into_map (λ g. g.number) (filter (is_busy p) x.files) f
        (into_filter (is_busy p) x.files f at (ap (λ b. b && is_sending f.state) passing ∙ ap is_sending sending))

    stays_there : (l k n : ℕ) → IsAbout l k n cut × (Contains busy n → ⊥) → Has n x.files
        → any_numbered n (filter stays x.files) ≡ true
    stays_there l k n (about, free) (f, at, is) = at_test (p f) refl
      where
        at_test : (b : Bool) → p f ≡ b → any_numbered n (filter stays x.files) ≡ true
        at_test true e = absurd (free (subst (λ m. Contains busy m) is
            (is_taken f at e (are.sending l k n f about at is))))
        at_test false e = any_there n (filter stays x.files)
            (f, into_filter stays x.files f at (not_from_false (p f) e), is)

    not_taken : (f : WholeFile) → Contains (filter stays x.files) f
        → (g : WholeFile) × Contains x.files g × (p g ≡ true) × (f.number ≡ g.number) → ⊥
    not_taken f at (g, there, passing, is) =
        let one : g ≡ f = same_file f.number x.files g f (apart f.number) there (from_filter stays x.files f at)
        (sym is) refl in
        cc (sym (not-true (p f) (passes_filter stays x.files f at)) ∙ ap p (sym one) ∙ passing)

-- ---- every move

pub sent_by_command : (entry : CustomerEntry) (who : User) (command : Command) (x y : Outgoing)
    → CommandMoves entry who command x y → AreDistinct x.files → AreBeingSent x → AreBeingSent y
sent_by_command entry who command x y move before are = at_move move
  where
    by_change : (p : WholeFile → Bool) (change : WholeFile → WholeFile) → y ≡ with_changed p change x
        → ((f : WholeFile) → (change f).number ≡ f.number)
        → ((f : WholeFile) → is_sending f.state ≡ false → is_sending (change f).state ≡ false) → AreBeingSent y
    by_change p change e numbers idle = carried x y
        (subst (Carries x) (sym e) (command_carries p change x numbers idle are)) are

    at_move : CommandMoves entry who command x y → AreBeingSent y
    at_move (moves.holds name is e) =
        by_change (is_of_name who name) (file_in_state state.Held) e (λ f. refl) (λ f idle. refl)
    at_move (moves.releases name is e) =
        by_change (is_of_name who name) (file_in_state state.Ready) e (λ f. refl) (λ f idle. refl)
    at_move (moves.reroutes name node line is route e) =
        by_change (is_of_name who name) (with_new_destination node) e (λ f. refl) (λ f. reroute_idle f.state)
    at_move (moves.cancels name is e) =
        carried x y (subst (Carries x) (sym e) (cancelled_carries (is_of_name who name) x before are)) are

sent_by_acts : (entry : CustomerEntry) (l : ℕ) (i : Item) (x y : Outgoing) → Acts entry l i x y → AreDistinct x.files
    → AreDistinct y.files → AreBeingSent x → AreBeingSent y
sent_by_acts entry l i x y acts before afterwards are = at_move acts
  where
    now : (z : Outgoing) → y ≡ z → Carries x z → AreBeingSent y
    now z e carries = carried x y (subst (Carries x) (sym e) carries) are

    at_move : Acts entry l i x y → AreBeingSent y
    at_move (moves.comes rcb srcb f is ready whole e) =
        now _ e (arrival_carries f x (λ sending. cc (sym ready ∙ sending))
        (subst (λ z. AreDistinct z.files) e afterwards) are)
    at_move (moves.permitted streams k n told asked e) =
        now _ e (onward_carries l k (Sending n 0) x (sym (ap (λ s. file_in s) asked)))
    at_move (moves.refused streams k n after told about none e) = now _ e (refused_carries l k n after x about none are)
    at_move (moves.completed streams k n told ended e) =
        now _ e (completed_carries l k n Idle x (ap (λ s. file_in s) ended) refl are)
    at_move (moves.commands who command given move) = sent_by_command entry who command x y move before are

pub sent_record : (l : ℕ) (i : Item) (c : Customer) → AreDistinct c.spool.whole
    → AreDistinct (after_record l i c).spool.whole
    → AreBeingSent (outgoing c) → AreBeingSent (outgoing (after_record l i c))
sent_record l i c before afterwards are = elim ((acts_so l i c).moves) [
  | inl same ↦ subst AreBeingSent (sym same) are
  | inr acts ↦ sent_by_acts c.entry l i (outgoing c) (outgoing (after_record l i c)) acts before afterwards are
]

pub sent_order : (order : GivenOrder) (c : Customer) → AreDistinct c.spool.whole → AreBeingSent (outgoing c)
    → AreBeingSent (outgoing (customer_after_order order c))
sent_order order c before are = elim (order_moves_so order c) [
  | inl same ↦ subst AreBeingSent (sym same) are
  | inr move ↦ sent_by_command c.entry move.who move.command (outgoing c) (outgoing (customer_after_order order c))
      move.moves before are
]
