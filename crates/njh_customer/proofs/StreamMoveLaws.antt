-- How a stream from the hub moves.
use Rattle.njh_customer.proofs.Words
use Words.{and_parts, no_file, ℕ, Bool, true, false, inl, inr, List, [], length, map, set, get_or, replicate, filter}
use Words.{find, not, Option, Some, None, refl, sym, ap, subst, arith, eqb-true, get_or-map, cases_lt, get_or_past}
use Words.{get_or-set_same, length-map, length-set, Contains-append_right, Contains, User, Item, kind_of, FileName}
use Words.{WholeFile, CustomerEntry, entry_marked, after_abort, file_in, goes_by, Sender, Requested, EofSent, Aborting}
use Words.{may_go, aborted_where, is_of_name, is_about, is_busy, is_sending, without_file, Cancel, IsAbout, Acts}
use Words.{Command, CommandMoves, Order, OrdersCommand, cancels_file, remains}
use Words.{Records, Routes, Moves, by_record, by_sending, by_end, Sends, Tells, Commands, Over, busy_numbers}
use Words.{without_files, StreamMoves, StreamsMoveSo, IdleStreamsTakeFiles, IsMovedAlone, Outgoing, each_stream}
use Words.{with_file_state, sender_on, streams_of, with_files, with_sender_on, without_numbered}
use Rattle.std.proofs.Common.{◌≡◌, ◌+◌, ◌⊎◌, ◌∷◌, ◌==◌, ◌∙◌, ◌<◌}
use Rattle.njh_stream.specs.declared.sender.Sender.TheVariants.{Idle, Sending}
use Rattle.njh_customer.proofs.FileListLaws.{from_map, from_filter, passes_filter, copies, set_one}
use Rattle.njh_spool.specs.declared.State.TheVariants as state
use Rattle.njh_customer.specs.Moves as moves
use Rattle.njh_customer.specs.MovingLaws as laws

-- ---- which stream it is

-- stream k of line j, where stream m of line l has moved: it has moved so, or it is as before
abbrev pub IsOne : ℕ → ℕ → ℕ → ℕ → Sender → Outgoing → Outgoing → Type 0
IsOne j k l m s x y = (sender_on j k y ≡ sender_on j k x) ⊎ ((j ≡ l) × (k ≡ m) × (sender_on j k y ≡ s))

pub moved_one : (j k l m : ℕ) (s : Sender) (x : Outgoing) → IsOne j k l m s x (with_sender_on l m s x)
moved_one j k l m s x = elim (set_one x.streams l j (set (streams_of l x) m s) []) [
  | inl same ↦ inl (ap (λ senders. get_or senders k Idle) same)
  | inr (line, e) ↦ elim (set_one (streams_of l x) m k s Idle) [
    | inl same ↦
        inl (ap (λ senders. get_or senders k Idle) e ∙ same ∙ ap (λ n. get_or (streams_of n x) k Idle) (sym line))
    | inr (stream, is) ↦ inr (line, stream, ap (λ senders. get_or senders k Idle) e ∙ is)
  ]
]

-- what was so of stream m of line l
pub was : (j k l m : ℕ) (s : Sender) (x : Outgoing) → sender_on l m x ≡ s → j ≡ l → k ≡ m → sender_on j k x ≡ s
was j k l m s x e line stream = ap (λ n. sender_on n k x) line ∙ ap (λ n. sender_on l n x) stream ∙ e

-- ---- by a command

-- it stays, or it was about the file and gives it up
abbrev pub GivesUp : List ℕ → Sender → Sender → Type 0
GivesUp ns s t = (n : ℕ) × Contains ns n × (file_in s ≡ Some n) × (t ≡ after_abort s)

pub aborted_none : (s : Sender) → file_in (after_abort s) ≡ None
aborted_none Idle = refl
aborted_none _ = refl

gives_up_or_stays : (n : ℕ) (s : Sender) → (without_file n s ≡ s)
    ⊎ ((file_in s ≡ Some n) × (without_file n s ≡ after_abort s))
gives_up_or_stays n s = at_file (file_in s) refl
  where
    at_file : (o : Option ℕ) → file_in s ≡ o → (aborted_where (is_about n o) s ≡ s) ⊎ ((file_in s ≡ Some n)
        × (aborted_where (is_about n o) s ≡ after_abort s))
    at_file None e = inl refl
    at_file (Some m) e = (elim (m == n) as (λ b. (m == n) ≡ b
        → (aborted_where b s ≡ s) ⊎ ((file_in s ≡ Some n) × (aborted_where b s ≡ after_abort s))) [
          | true ↦ λ same. inr (e ∙ ap Some (eqb-true m n same), refl)
          | false ↦ λ _. inl refl
        ]) refl

pub each_at : (j k n : ℕ) (x : Outgoing) → sender_on j k (each_stream (without_file n) x) ≡ without_file n
    (sender_on j k x)
each_at j k n x =
    ap (λ senders. get_or senders k Idle) (get_or-map (λ senders. map (without_file n) senders) x.streams j [])
    ∙ get_or-map (without_file n) (get_or x.streams j []) k Idle

abbrev pub StaysOrGivesUp : ℕ → ℕ → List ℕ → Outgoing → Outgoing → Type 0
StaysOrGivesUp j k ns x y = (sender_on j k y ≡ sender_on j k x) ⊎ GivesUp ns (sender_on j k x) (sender_on j k y)

pub all_give_up : (j k : ℕ) (ns : List ℕ) (x : Outgoing) → StaysOrGivesUp j k ns x (without_files ns x)
all_give_up j k [] x = inl refl
all_give_up j k (n ∷ ns) x =
    at_rest (all_give_up j k ns (each_stream (without_file n) x)) (gives_up_or_stays n (sender_on j k x))
  where
    next : Outgoing
    next = each_stream (without_file n) x

    at_rest : StaysOrGivesUp j k ns next (without_files ns next) → (without_file n (sender_on j k x) ≡ sender_on j k x)
        ⊎ ((file_in (sender_on j k x) ≡ Some n) × (without_file n (sender_on j k x) ≡ after_abort (sender_on j k x)))
        → StaysOrGivesUp j k (n ∷ ns) x (without_files ns next)
    at_rest (inl same) (inl stays) = inl (same ∙ each_at j k n x ∙ stays)
    at_rest (inl same) (inr gives) = inr (n, (0, omega arith, refl), gives.0, same ∙ each_at j k n x ∙ gives.1)
    at_rest (inr later) (inl stays) =
        let before = each_at j k n x ∙ stays in
        inr (
          later.0,
          Contains-append_right (n ∷ []) ns later.0 later.1,
          sym (ap (λ s. file_in s) before) ∙ later.2,
          later.3 ∙ ap (λ s. after_abort s) before,
        )
    at_rest (inr later) (inr gives) =
        absurd (cc (sym later.2 ∙ ap (λ s. file_in s) (each_at j k n x ∙ gives.1) ∙ aborted_none (sender_on j k x)))

-- the number of one that is being sent is that of a file that passes the test
pub busy_one : (p : WholeFile → Bool) (files : List WholeFile) (n : ℕ) → Contains (busy_numbers p files) n
    → (f : WholeFile) × Contains files f × (p f ≡ true) × (n ≡ f.number)
busy_one p files n at =
    let found = from_map (λ f. f.number) (filter (is_busy p) files) no_file n at in
    let there = from_filter (is_busy p) files found.0 found.1 in
    let passes = passes_filter (is_busy p) files found.0 found.1 in
    (found.0, there, (and_parts (p found.0) (is_sending found.0.state) passes).0, found.2)

-- CANCEL of the owner of its file by the file's name makes it give the file up
pub record GivesFileUp (who : User) (command : Command) (j k : ℕ) (x y : Outgoing) : Type 0 where
  pub name : FileName
  pub is : command ≡ Cancel name
  pub file : WholeFile
  pub there : Contains x.files file
  pub of_name : is_of_name who name file ≡ true
  pub about : file_in (sender_on j k x) ≡ Some file.number
  pub now : sender_on j k y ≡ after_abort (sender_on j k x)

pub commanded_stream : (entry : CustomerEntry) (who : User) (command : Command) (j k : ℕ) (x y : Outgoing)
    → CommandMoves entry who command x y
    → (sender_on j k y ≡ sender_on j k x) ⊎ GivesFileUp who command j k x y
commanded_stream entry who command j k x y (moves.holds name is e) = inl (ap (sender_on j k) e)
commanded_stream entry who command j k x y (moves.releases name is e) = inl (ap (sender_on j k) e)
commanded_stream entry who command j k x y (moves.reroutes name node line is route e) = inl (ap (sender_on j k) e)
commanded_stream entry who command j k x y (moves.cancels name is e) =
    let p = is_of_name who name in
    let kept = filter (λ f. not (p f)) x.files in
    let ns = busy_numbers p x.files in
    elim (subst (StaysOrGivesUp j k ns x) (sym e) (all_give_up j k ns (with_files kept x))) [
      | inl same ↦ inl same
      | inr gives ↦ let f = busy_one p x.files gives.0 gives.1 in inr (record {
        name = name;
        is = is;
        file = f.0;
        there = f.1;
        of_name = f.2;
        about = gives.2 ∙ ap Some f.3;
        now = gives.3;
      })
    ]

-- ---- each move

module _ (entry : CustomerEntry) (l : ℕ) (items : List Item) (j k : ℕ) (x y : Outgoing) where
  -- as the moved one is, or stays
  moved_so : (m : ℕ) (s : Sender) (files : List WholeFile) → y ≡ with_sender_on l m s (with_files files x)
      → (j ≡ l → k ≡ m → IsMovedAlone j k s x y → StreamMoves entry l items j k x y) → StreamMoves entry l items j k x y
  moved_so m s files e there = at_one (moved_one j k l m s (with_files files x))
    where
      at_one : IsOne j k l m s (with_files files x) (with_sender_on l m s (with_files files x))
          → StreamMoves entry l items j k x y
      at_one (inl same) = laws.stays (ap (sender_on j k) e ∙ same)
      at_one (inr one) = there one.0 one.1 (
        ap (sender_on j k) e ∙ one.2,
        ap (λ z. z.streams) e ∙ sym (ap (λ n. (with_sender_on n k s x).streams) one.0 ∙ ap
            (λ n. (with_sender_on l n s x).streams) one.1),
      )

  command_moves : (i : Item) (who : User) (command : Command) → Contains items i → Commands entry who command i
      → (sender_on j k y ≡ sender_on j k x) ⊎ GivesFileUp who command j k x y → StreamMoves entry l items j k x y
  command_moves i who command at given (inl same) = laws.stays same
  command_moves i who command at given (inr gives) =
      laws.cancelled i who gives.name gives.file at (subst (λ d. Commands entry who d i) gives.is given) gives.there
      gives.of_name gives.about gives.now

  record_moves : (i : Item) → Contains items i → Acts entry l i x y → StreamMoves entry l items j k x y
  record_moves i at (moves.comes rcb srcb f is ready whole e) = laws.stays (ap (sender_on j k) e)
  record_moves i at (moves.permitted streams m n told before e) = moved_so m (Sending n 0) x.files e
      (λ line stream now. laws.permitted i streams n line at (subst (λ t. Tells 0xa0 streams t i) (sym stream) told)
      (was j k l m (Requested n) x before line stream) now)
  record_moves i at (moves.refused streams m n after told before none e) =
      moved_so m after (with_file_state n state.Refused x.files) e
      (λ line stream now. laws.refused i streams n after line at (subst (λ t. Tells 0xb0 streams t i) (sym stream) told)
      (ap (λ s. file_in s) (was j k l m (sender_on l m x) x refl line stream) ∙ before) none now)
  record_moves i at (moves.completed streams m n told before e) = moved_so m Idle (without_numbered n x.files) e
      (λ line stream now. laws.completed i streams n line at (subst (λ t. Tells 0xc0 streams t i) (sym stream) told)
      (was j k l m (EofSent n) x before line stream) now)
  record_moves i at (moves.commands who command given move) =
      command_moves i who command at given (commanded_stream entry who command j k x y move)

  sending_moves : Sends entry l x y → StreamMoves entry l items j k x y
  sending_moves (moves.gives_up m before e) = moved_so m Idle x.files e
      (λ line stream now. laws.gives_up line (moves.gives_up m before e)
      (was j k l m Aborting x before line stream) now)
  sending_moves (moves.asks m f few before found e) =
      moved_so m (Requested f.number) (with_file_state f.number state.Sending x.files) e
      (λ line stream now. laws.asks f line (moves.asks m f few before found e) (was j k l m Idle x before line stream)
      (ap (λ t. find (may_go (goes_by entry l) (kind_of t)) x.files) stream ∙ found) now)
  sending_moves (moves.goes_on m n place r before found e) = moved_so m (Sending n (place + 1)) x.files e
      (λ line stream now. laws.goes_on n place r line (moves.goes_on m n place r before found e)
      (was j k l m (Sending n place) x before line stream) found now)
  sending_moves (moves.ends m n place before found e) = moved_so m (EofSent n) x.files e
      (λ line stream now. laws.ends n place line (moves.ends m n place before found e)
      (was j k l m (Sending n place) x before line stream) found now)

  end_moves : Over l x y → StreamMoves entry l items j k x y
  end_moves gone =
      let now = ap (λ lines. get_or (get_or lines j []) k Idle) gone.streams in
      elim (set_one x.streams l j (replicate (length (streams_of l x)) Idle) []) [
        | inl same ↦ laws.stays (now ∙ ap (λ senders. get_or senders k Idle) same)
        | inr (line, is) ↦ laws.over line gone
            (now ∙ ap (λ senders. get_or senders k Idle) is ∙ copies (length (streams_of l x)) k Idle)
      ]

moves_on_line : (entry : CustomerEntry) (l : ℕ) (items : List Item) (x y : Outgoing) (j k : ℕ) → Moves entry l items x y
    → StreamMoves entry l items j k x y
moves_on_line entry l items x y j k (by_record (i, at, acts)) = record_moves entry l items j k x y i at acts
moves_on_line entry l items x y j k (by_sending sends) = sending_moves entry l items j k x y sends
moves_on_line entry l items x y j k (by_end over) = end_moves entry l items j k x y over

pub streams_move : StreamsMoveSo
streams_move entry (Records l items) x y j k (up, move) =
    (up, moves_on_line (entry_marked l up entry) l items x y j k move)
streams_move entry (Routes routes) x y j k given = ap (sender_on j k) given.holds
streams_move entry (Order order) x y j k move =
    elim (commanded_stream entry move.who move.command j k x y move.moves) [
      | inl same ↦ remains same
      | inr gives ↦ cancels_file move.who gives.name gives.file
          (subst (λ d. OrdersCommand move.who d order) gives.is move.given) gives.there gives.of_name gives.about
          gives.now
    ]

pub idle_take : IdleStreamsTakeFiles
idle_take entry (Routes routes) x y j k n given has = inl (sym (ap (λ s. file_in (sender_on j k s)) given.holds) ∙ has)
idle_take entry (Order order) x y j k n move has =
    elim (commanded_stream entry move.who move.command j k x y move.moves) [
      | inl same ↦ inl (sym (ap (λ s. file_in s) same) ∙ has)
      | inr gives ↦ about_none (after_abort (sender_on j k x)) gives.now (aborted_none (sender_on j k x))
    ]
  where
    -- about none
    about_none : {A : Type 0} (s : Sender) → sender_on j k y ≡ s → file_in s ≡ None → A
    about_none s now none = absurd (cc (sym has ∙ ap (λ t. file_in t) now ∙ none))
idle_take entry (Records l items) x y j k n (up, move) has =
    elim (moves_on_line (entry_marked l up entry) l items x y j k move) [
      | laws.stays same ↦ inl (sym (ap (λ s. file_in s) same) ∙ has)
      | laws.asks f line sends idle found now ↦ inr idle
      | laws.permitted i streams m line at told before now ↦
          inl (same_file (Requested m) (Sending m 0) before now.0 refl)
      | laws.goes_on m place r line sends before found now ↦
          inl (same_file (Sending m place) (Sending m (place + 1)) before now.0 refl)
      | laws.ends m place line sends before found now ↦ inl (same_file (Sending m place) (EofSent m) before now.0 refl)
      | laws.refused i streams m after line at told before none now ↦ about_none after now.0 none
      | laws.completed i streams m line at told before now ↦ about_none Idle now.0 refl
      | laws.gives_up line sends before now ↦ about_none Idle now.0 refl
      | laws.cancelled i who name f at given there mine before now ↦
          about_none (after_abort (sender_on j k x)) now (aborted_none (sender_on j k x))
      | laws.over line gone now ↦ about_none Idle now refl
    ]
  where
    -- as it was, about the same file
    same_file : (b s : Sender) → sender_on j k x ≡ b → sender_on j k y ≡ s → file_in b ≡ file_in s
        → file_in (sender_on j k x) ≡ Some n
    same_file b s before now same = ap (λ t. file_in t) before ∙ same ∙ sym (ap (λ t. file_in t) now) ∙ has

    -- about none
    about_none : {A : Type 0} (s : Sender) → sender_on j k y ≡ s → file_in s ≡ None → A
    about_none s now none = absurd (cc (sym has ∙ ap (λ t. file_in t) now ∙ none))

pub ruleset moves_of_streams = (streams_move, idle_take)

-- ---- a stream that is about a file is there

pub about_line : (l k n : ℕ) (x : Outgoing) → IsAbout l k n x → l < length x.streams
about_line l k n x about = elim (cases_lt l (length x.streams)) [
  | inl inside ↦ inside
  | inr past ↦
      absurd (cc (sym about ∙ ap (λ senders. file_in (get_or senders k Idle)) (get_or_past x.streams l [] past)))
]

pub about_stream : (l k n : ℕ) (x : Outgoing) → IsAbout l k n x → k < length (streams_of l x)
about_stream l k n x about = elim (cases_lt k (length (streams_of l x))) [
  | inl inside ↦ inside
  | inr past ↦ absurd (cc (sym about ∙ ap (λ s. file_in s) (get_or_past (streams_of l x) k Idle past)))
]

-- ---- one that is set

pub set_there : (l k : ℕ) (s : Sender) (x : Outgoing) → l < length x.streams → k < length (streams_of l x)
    → sender_on l k (with_sender_on l k s x) ≡ s
set_there l k s x line stream =
    ap (λ senders. get_or senders k Idle) (get_or-set_same x.streams l (set (streams_of l x) k s) [] line)
    ∙ get_or-set_same (streams_of l x) k s Idle stream

pub set_where_about : (l k n : ℕ) (s : Sender) (x : Outgoing) → IsAbout l k n x
    → sender_on l k (with_sender_on l k s x) ≡ s
set_where_about l k n s x about = set_there l k s x (about_line l k n x about) (about_stream l k n x about)

-- ---- how many there are

pub set_lines : (l k : ℕ) (s : Sender) (x : Outgoing) → length (with_sender_on l k s x).streams ≡ length x.streams
set_lines l k s x = length-set x.streams l (set (streams_of l x) k s)

pub set_streams : (j l k : ℕ) (s : Sender) (x : Outgoing)
    → length (streams_of j (with_sender_on l k s x)) ≡ length (streams_of j x)
set_streams j l k s x = elim (set_one x.streams l j (set (streams_of l x) k s) []) [
  | inl same ↦ ap (λ senders. length senders) same
  | inr (line, is) ↦ ap (λ senders. length senders) is ∙ length-set (streams_of l x) k s
      ∙ ap (λ m. length (streams_of m x)) (sym line)
]

pub each_lines : (f : Sender → Sender) (x : Outgoing) → length (each_stream f x).streams ≡ length x.streams
each_lines f x = length-map x.streams (λ senders. map f senders)

pub each_streams : (f : Sender → Sender) (j : ℕ) (x : Outgoing)
    → length (streams_of j (each_stream f x)) ≡ length (streams_of j x)
each_streams f j x = ap (λ senders. length senders) (get_or-map (λ senders. map f senders) x.streams j []) ∙ length-map
    (streams_of j x) f
