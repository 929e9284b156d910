-- The records that a block carries of a stream's file.
use Rattle.std.proofs.Common.{◌≡◌, ◌<◌, ◌≤◌, ℕ, ◌+◌, Bool, true, false, cond, ◌⊎◌, inl, inr, List, [], ◌∷◌, ◌++◌}
use Rattle.std.proofs.Common.{length, map, take, drop, get_or, find, Option, Some, None, option_map, slice_get, ◌==◌}
use Rattle.std.proofs.Common.{refl, sym, ap, subst, ◌∙◌, arith, eq-eqb, append_assoc}
use Rattle.std.proofs.lemmas.List.{append-nil, get_or-drop, length-drop, map-append, take_all, take_more}
use Rattle.std.proofs.lemmas.List.Elements.{filter-append}
use Rattle.std.proofs.lemmas.Option.{slice_get_cases}
use Rattle.njh_block.specs.Blocks.{Item, all_suspended, rcb_of}
use Rattle.njh_block.specs.Codes.{kind_of}
use Rattle.njh_block.specs.Writing.{has_room}
use Rattle.njh_record.specs.Stored.{Stored}
use Rattle.njh_spool.specs.declared.State.{State}
use Rattle.njh_spool.specs.CustomerSpool.{CustomerSpool, WholeFile, whole_numbered}
use Rattle.njh_stream.specs.Sending.{next_at, next_of, record_at}
use Rattle.njh_stream.specs.declared.sender.Sender.{Sender}
use Rattle.njh_stream.specs.declared.sender.Sender.TheVariants.{Idle, Requested, Sending, EofSent, Aborting}
use Rattle.njh_sched.specs.NextBlock.{Outlet, Candidate, Filling, Source, WaitingAnswer, StreamAbort, StreamRequest}
use Rattle.njh_sched.specs.NextBlock.{WaitingMessage, StreamTurn, abort_where, answering, asking, candidate, data_item}
use Rattle.njh_sched.specs.NextBlock.{sends_file, may_ask, next_served, oldest, sender_at, telling, added_where}
use Rattle.njh_sched.specs.NextBlock.{after_candidate, after_source_where, after_source, after_sources, filled_block}
use Rattle.njh_sched.specs.NextBlock.{filled_where, sources}
use Rattle.njh_sched.specs.Laws.{records_under, is_under, Does, left, gives_up, asks, sends, EachDoes}
use Rattle.njh_sched.specs.Carrying.{Carries, on_its_way, at_its_end, end_of_file, file_records, record_item}
use Rattle.njh_sched.specs.Carrying.{records_of}
use Rattle.njh_sched.proofs.EachLaws.{each_does}
use Rattle.njh_sched.proofs.TurnLaws.{served_by}

-- ---- no source changes a file's records

renumbered : (n m : ℕ) (state : State) (fs : List WholeFile) →
    records_of (find (λ f. f.number == n) (map (λ x. cond (x.number == m) (record x { state = state }) x) fs))
    ≡ records_of (find (λ f. f.number == n) fs)
renumbered n m state [] = refl
renumbered n m state (f ∷ fs) = at_first (f.number == m) (renumbered n m state fs)
  where
    rest : List WholeFile
    rest = map (λ x. cond (x.number == m) (record x { state = state }) x) fs

    at_number : (b : Bool) (g : WholeFile) → g.records ≡ f.records
        → records_of (find (λ x. x.number == n) rest) ≡ records_of (find (λ x. x.number == n) fs)
        → records_of (cond b (Some g) (find (λ x. x.number == n) rest))
        ≡ records_of (cond b (Some f) (find (λ x. x.number == n) fs))
    at_number true g same more = same
    at_number false g same more = more

    at_first :
        (b : Bool) → records_of (find (λ x. x.number == n) rest) ≡ records_of (find (λ x. x.number == n) fs)
        → records_of (find (λ x. x.number == n) (cond b (record f { state = state }) f ∷ rest))
        ≡ records_of (cond (f.number == n) (Some f) (find (λ x. x.number == n) fs))
    at_first true more = at_number (f.number == n) (record f { state = state }) refl more
    at_first false more = at_number (f.number == n) f refl more

-- a record that may come leaves the records of a file
abbrev LeavesRecords : ℕ → CustomerSpool → Option Candidate → Type 0
LeavesRecords n s None = Unit {0}
LeavesRecords n s (Some c) = file_records n c.spool ≡ file_records n s

leaves_map : {A : Type 0} (n : ℕ) (s : CustomerSpool) (f : A → Candidate) (o : Option A)
    → ((x : A) → file_records n (f x).spool ≡ file_records n s)
    → LeavesRecords n s (option_map f o)
leaves_map n s f None same = tt
leaves_map n s f (Some x) same = same x

leaves_abort : (n : ℕ) (x : Sender) (o : Outlet) (s : CustomerSpool) (k : ℕ) → LeavesRecords n s (abort_where x o s k)
leaves_abort n Idle o s k = tt
leaves_abort n (Requested m) o s k = tt
leaves_abort n (Sending m place) o s k = tt
leaves_abort n (EofSent m) o s k = tt
leaves_abort n Aborting o s k = refl

leaves_request : (n : ℕ) (b : Bool) (f : Option WholeFile) (o : Outlet) (s : CustomerSpool) (k : ℕ)
    → LeavesRecords n s (elim b [ false ↦ None | true ↦ option_map (λ x. asking o s k x.number) f ])
leaves_request n false f o s k = tt
leaves_request n true None o s k = tt
leaves_request n true (Some f) o s k = renumbered n f.number _ s.whole

leaves : (goes : WholeFile → Bool) (n : ℕ) (source : Source) (o : Outlet) (s : CustomerSpool)
    → LeavesRecords n s (candidate goes source o s)
leaves goes n WaitingAnswer o s = leaves_map n s (answering o s) (slice_get o.answers 0) (λ a. refl)
leaves goes n (StreamAbort k) o s = leaves_abort n (sender_at k o) o s k
leaves goes n (StreamRequest k) o s = leaves_request n (may_ask o k) (oldest goes (kind_of k) s) o s k
leaves goes n WaitingMessage o s = leaves_map n s (telling o s) (slice_get o.messages 0) (λ m. refl)
leaves goes n StreamTurn o s = leaves_map n s (served_by o s) (next_served o) (λ k. refl)

records_left : (goes : WholeFile → Bool) (n : ℕ) (source : Source) (x : Filling)
    → file_records n (after_source goes source x).spool ≡ file_records n x.spool
unfolding after_source
records_left goes n source x = at_full x.full
  where
    at_room : (b : Bool) (c : Candidate) → file_records n c.spool ≡ file_records n x.spool
        → file_records n (added_where b c x).spool ≡ file_records n x.spool
    at_room true c same = same
    at_room false c same = refl

    at_candidate : (o : Option Candidate) → LeavesRecords n x.spool o
        → file_records n (after_candidate o x).spool ≡ file_records n x.spool
    at_candidate None same = refl
    at_candidate (Some c) same = at_room (has_room x.block c.item) c same

    at_full : (b : Bool) → file_records n (after_source_where b goes source x).spool ≡ file_records n x.spool
    at_full true = refl
    at_full false = at_candidate (candidate goes source x.outlet x.spool) (leaves goes n source x.outlet x.spool)

-- ---- the next record

at_place : (n p : ℕ) (s : CustomerSpool) → record_at n p s ≡ slice_get (file_records n s) p
at_place n p s = at_file (whole_numbered n s)
  where
    at_file : (o : Option WholeFile) → elim o [ Some f ↦ slice_get f.records p | None ↦ None ]
        ≡ slice_get (records_of o) p
    at_file None = refl
    at_file (Some f) = refl

one_under : (k : ℕ) (is : List Item) (i : Item) → is_under (rcb_of k) i ≡ true
    → records_under (rcb_of k) (is ++ i ∷ []) ≡ records_under (rcb_of k) is ++ i ∷ []
one_under k is i e =
    filter-append (is_under (rcb_of k)) is (i ∷ []) ∙ ap (λ b. records_under (rcb_of k) is ++ cond b (i ∷ []) []) e

-- one source more
module _ (goes : WholeFile → Bool) (k n p : ℕ) (records : List Stored) (before : List Item) where
  more_of : (m : ℕ) (r : Stored) → p + m < length records → get_or records (p + m) r ≡ r
      → take (m + 1) (drop p records) ≡ take m (drop p records) ++ r ∷ []
  more_of m r within is =
      take_more (drop p records) m r (omega (arith, within, length-drop p records))
      ∙ ap (λ x. take m (drop p records) ++ x ∷ []) (get_or-drop p records m r ∙ is)

  all_of : (m : ℕ) → length records ≤ p + m → take m (drop p records) ≡ drop p records
  all_of m past = take_all m (drop p records) (omega (arith, past, length-drop p records))

  sent_on : (m : ℕ) (x y : Filling) (o : Option Stored) → slice_get records (p + m) ≡ o
      → ((r : Stored) × (p + m < length records) × (o ≡ Some r) × (get_or records (p + m) r ≡ r))
      ⊎ ((length records ≤ p + m) × (o ≡ None))
      → records_under (rcb_of k) x.block.items ≡ before ++ map (record_item k) (take m (drop p records))
      → y.block.items ≡ x.block.items ++ data_item k (next_at n (p + m) o).stored ∷ []
      → sender_at k y.outlet ≡ (next_at n (p + m) o).sender → Carries k n p records before y
  sent_on m x y (Some r) at (inl found) items item sender =
      let same : found.0 ≡ r = cc (sym found.2) in
      on_its_way (m + 1) (omega (arith, found.1)) (sender ∙ ap (Sending n) (omega arith))
      (ap (records_under (rcb_of k)) item
      ∙ one_under k x.block.items (record_item k r) (eq-eqb (rcb_of k) (rcb_of k) refl)
      ∙ ap (λ is. is ++ record_item k r ∷ []) items
      ∙ append_assoc before (map (record_item k) (take m (drop p records))) (record_item k r ∷ [])
      ∙ ap (λ is. before ++ is) (sym (map-append (record_item k) (take m (drop p records)) (r ∷ [])))
      ∙ ap (λ rs. before ++ map (record_item k) rs)
      (sym (more_of m r found.1 (subst (λ z. get_or records (p + m) z ≡ z) same found.3))))
  sent_on m x y (Some r) at (inr past) items item sender = absurd (cc past.1)
  sent_on m x y None at (inl found) items item sender = absurd (cc found.2)
  sent_on m x y None at (inr past) items item sender =
      at_its_end sender
      (ap (records_under (rcb_of k)) item
      ∙ one_under k x.block.items (end_of_file k) (eq-eqb (rcb_of k) (rcb_of k) refl)
      ∙ ap (λ is. is ++ end_of_file k ∷ []) (items ∙ ap (λ rs. before ++ map (record_item k) rs) (all_of m past.0))
      ∙ append_assoc before (map (record_item k) (drop p records)) (end_of_file k ∷ []))

  one_more : (x y : Filling) → file_records n x.spool ≡ records → Carries k n p records before x → Does goes k x y
      → Carries k n p records before y
  one_more x y same (on_its_way m within sender items) (left l) =
      on_its_way m within (l.sender ∙ sender) (l.items ∙ items)
  one_more x y same (on_its_way m within sender items) (gives_up g) = absurd (cc (sym g.before ∙ sender))
  one_more x y same (on_its_way m within sender items) (asks a) = absurd (cc (sym a.before ∙ sender))
  one_more x y same (on_its_way m within sender items) (sends s) =
      let o = slice_get records (p + m) in
      let next : next_of (sender_at k x.outlet) x.spool ≡ next_at n (p + m) o =
      ap (λ z. next_of z x.spool) sender ∙ ap (next_at n (p + m))
      (at_place n (p + m) x.spool ∙ ap (λ rs. slice_get rs (p + m)) same) in
      sent_on m x y o refl (slice_get_cases records (p + m)).1 items
      (s.item ∙ ap (λ z. x.block.items ++ data_item k z.stored ∷ []) next) (s.after ∙ ap (λ z. z.sender) next)
  one_more x y same (at_its_end sender items) (left l) = at_its_end (l.sender ∙ sender) (l.items ∙ items)
  one_more x y same (at_its_end sender items) (gives_up g) = absurd (cc (sym g.before ∙ sender))
  one_more x y same (at_its_end sender items) (asks a) = absurd (cc (sym a.before ∙ sender))
  one_more x y same (at_its_end sender items) (sends s) = absurd (cc (sym s.before ∙ ap sends_file sender))

  pub all_carry : (sources : List Source) (x : Filling) → file_records n x.spool ≡ records
      → Carries k n p records before x → EachDoes goes k sources x
      → Carries k n p records before (after_sources goes sources x)
  unfolding after_sources
  all_carry [] x same carries each = carries
  all_carry (source ∷ more) x same carries each =
      all_carry more (after_source goes source x) (records_left goes n source x ∙ same)
      (one_more x (after_source goes source x) same carries each.0) each.1

-- none of what a stream isn't sending
one_quiet : (goes : WholeFile → Bool) (k : ℕ) (x y : Filling) → sends_file (sender_at k x.outlet) ≡ false
    → Does goes k x y
    → (sends_file (sender_at k y.outlet) ≡ false)
    × (records_under (rcb_of k) y.block.items ≡ records_under (rcb_of k) x.block.items)
one_quiet goes k x y quiet (left l) = (ap sends_file l.sender ∙ quiet, l.items)
one_quiet goes k x y quiet (gives_up g) = (ap sends_file g.after, g.items)
one_quiet goes k x y quiet (asks a) = (ap sends_file a.after, a.items)
one_quiet goes k x y quiet (sends s) = absurd (cc (sym s.before ∙ quiet))

pub all_quiet : (goes : WholeFile → Bool) (k : ℕ) (sources : List Source) (x : Filling)
    → sends_file (sender_at k x.outlet) ≡ false
    → EachDoes goes k sources x → records_under (rcb_of k) (after_sources goes sources x).block.items ≡ records_under
    (rcb_of k) x.block.items
unfolding after_sources
all_quiet goes k [] x quiet each = refl
all_quiet goes k (source ∷ more) x quiet each =
    let one = one_quiet goes k x (after_source goes source x) quiet each.0 in
    all_quiet goes k more (after_source goes source x) one.0 each.1 ∙ one.1

-- ---- the whole block

module _ (goes : WholeFile → Bool) (k : ℕ) (x : Filling) (few : k < 8) (inside : k < length x.outlet.senders) where
  pub filled_carries : (n p : ℕ) → sender_at k x.outlet ≡ Sending n p
      → Carries k n p (file_records n x.spool) (records_under (rcb_of k) x.block.items) (filled_block goes x)
  unfolding filled_block
  filled_carries n p sender = at_suspended (all_suspended x.outlet.peer_fcs)
    where
      begins : Carries k n p (file_records n x.spool) (records_under (rcb_of k) x.block.items) x
      begins =
          on_its_way 0 (omega arith) (sender ∙ ap (Sending n) (omega arith))
          (sym (append-nil (records_under (rcb_of k) x.block.items)))

      at_suspended : (b : Bool) → Carries k n p (file_records n x.spool) (records_under (rcb_of k) x.block.items)
          (filled_where b goes x)
      at_suspended true = begins
      at_suspended false =
          let all = sources x.block.limit x.outlet in
          all_carry goes k n p (file_records n x.spool) (records_under (rcb_of k) x.block.items) all x refl begins
          (each_does goes k all x few inside)

  pub filled_quiet : sends_file (sender_at k x.outlet) ≡ false
      → records_under (rcb_of k) (filled_block goes x).block.items ≡ records_under (rcb_of k) x.block.items
  unfolding filled_block
  filled_quiet quiet = at_suspended (all_suspended x.outlet.peer_fcs)
    where
      at_suspended : (b : Bool) → records_under (rcb_of k) (filled_where b goes x).block.items ≡ records_under
          (rcb_of k) x.block.items
      at_suspended true = refl
      at_suspended false =
          let all = sources x.block.limit x.outlet in
          all_quiet goes k all x quiet (each_does goes k all x few inside)
