-- What a line has to send, by its sources and by what is looked at of it.
use Rattle.std.proofs.Common.{◌≡◌, ◌<◌, ◌≤◌, ℕ, zero, suc, ◌+◌, Bool, true, false, ◌&&◌, ◌||◌, not, List, [], ◌∷◌, ◌++◌}
use Rattle.std.proofs.Common.{length, drop, map, replicate, find, Option, Some, None, option_map, slice_get}
use Rattle.std.proofs.Common.{refl, sym, ap, ap₂, subst, ◌∙◌, arith}
use Rattle.std.specs.List.{list_any}
use Rattle.std.specs.Option.{is_some}
use Rattle.std.proofs.lemmas.List.Folds.{list_any-append}
use Rattle.njh_block.specs.Blocks.{all_suspended, messages_on}
use Rattle.njh_block.specs.Codes.{kind_of}
use Rattle.njh_record.specs.declared.Kind.{Kind}
use Rattle.njh_spool.specs.CustomerSpool.{CustomerSpool, WholeFile}
use Rattle.njh_spool.specs.Spools.{spool_at}
use Rattle.njh_stream.specs.declared.sender.Sender.{Sender}
use Rattle.njh_stream.specs.declared.sender.Sender.TheVariants.{Idle, Requested, Sending, EofSent, Aborting}
use Rattle.njh_stream.specs.Sending.{goes_by, next_of}
use Rattle.njh_table.specs.TableFile.{NamedCustomer, entry_of}
use Rattle.njh_table.specs.declared.LineId.{LineId}
use Rattle.njh_sched.specs.NextBlock.{Outlet, Source, WaitingAnswer, StreamAbort, StreamRequest, WaitingMessage}
use Rattle.njh_sched.specs.NextBlock.{StreamTurn, abort_where, aborts, answering, asking, may_ask, may_go}
use Rattle.njh_sched.specs.NextBlock.{messages_where, next_served, oldest, requests, sender_at, serving, sources}
use Rattle.njh_sched.specs.NextBlock.{streams, telling, turns, waiting_answers, waiting_messages}
use Rattle.njh_sched.specs.Having.{has_candidate, has_record}
use Rattle.njh_sched.specs.code.FileCursor.{FileCursor, files_of, first_file, goes_of}
use Rattle.njh_sched.specs.code.Having.{has_abort, has_file_for, has_message, has_queued, has_request, is_aborting}
use Rattle.njh_sched.proofs.SourceLists.{drop_at, no_streams, stream_at}

-- ---- lists of which one passes

mapped_any : {X Y : Type 0} (p : X → Bool) (q : Y → Bool) (f : Y → X) (ys : List Y) → ((y : Y) → p (f y) ≡ q y)
    → list_any p (map f ys) ≡ list_any q ys
mapped_any p q f [] same = refl
mapped_any p q f (y ∷ ys) same = ap₂ (λ (a b : Bool). a || b) (same y) (mapped_any p q f ys same)

-- as many as wait in a queue, each of which passes if one waits
queue_any : {X : Type 0} (p : Source → Bool) (xs : List X) (source : Source) → p source ≡ is_some (slice_get xs 0)
    → list_any p (replicate (length xs) source) ≡ is_some (slice_get xs 0)
queue_any p [] source same = refl
queue_any p (x ∷ xs) source same = ap (λ b. b || list_any p (replicate (length xs) source)) same

some_of_map : {A B : Type 0} (f : A → B) (o : Option A) → is_some (option_map f o) ≡ is_some o
some_of_map f None = refl
some_of_map f (Some x) = refl

or_nothing : (b : Bool) → (b || false) ≡ b
or_nothing true = refl
or_nothing false = refl

either_same : (b : Bool) → (b || b) ≡ b
either_same true = refl
either_same false = refl

-- the third of five comes last
third_last : (a b r m t : Bool) → (a || (b || (r || (m || t)))) ≡ ((a || (b || (m || t))) || r)
third_last true b r m t = refl
third_last false true r m t = refl
third_last false false true true t = refl
third_last false false true false true = refl
third_last false false true false false = refl
third_last false false false true t = refl
third_last false false false false true = refl
third_last false false false false false = refl

-- ---- by its sources

module _ (goes : WholeFile → Bool) (o : Outlet) (s : CustomerSpool) where
  abbrev has : Source → Bool
  has = has_candidate goes o s

  answers_any : list_any has (waiting_answers o) ≡ is_some (slice_get o.answers 0)
  answers_any = queue_any has o.answers WaitingAnswer (some_of_map (answering o s) (slice_get o.answers 0))

  by_sender : (x : Sender) (k : ℕ) → is_some (abort_where x o s k) ≡ is_aborting x
  by_sender Idle k = refl
  by_sender (Requested n) k = refl
  by_sender (Sending n place) k = refl
  by_sender (EofSent n) k = refl
  by_sender Aborting k = refl

  aborts_any : list_any has aborts ≡ has_abort o
  aborts_any = mapped_any has (λ k. is_aborting (sender_at k o)) StreamAbort streams (λ k. by_sender (sender_at k o) k)

  by_file : (b : Bool) (k : ℕ) (f : Option WholeFile)
      → is_some (elim b [ false ↦ None | true ↦ option_map (λ x. asking o s k x.number) f ]) ≡ (b && is_some f)
  by_file false k f = refl
  by_file true k f = some_of_map (λ x. asking o s k x.number) f

  requests_any : list_any has requests ≡ has_request goes o s
  requests_any = mapped_any has (has_file_for goes o s) StreamRequest streams
      (λ k. by_file (may_ask o k) k (oldest goes (kind_of k) s))

  by_let : (b : Bool) → list_any has (messages_where b o.messages) ≡ (b && is_some (slice_get o.messages 0))
  by_let true = queue_any has o.messages WaitingMessage (some_of_map (telling o s) (slice_get o.messages 0))
  by_let false = refl

  messages_any : list_any has (waiting_messages o) ≡ has_message o
  messages_any = by_let (messages_on o.peer_fcs)

  turn_any : has StreamTurn ≡ is_some (next_served o)
  turn_any = some_of_map (λ k. serving o s k (next_of (sender_at k o) s)) (next_served o)

  turns_any : (n : ℕ) → list_any has (turns (suc n)) ≡ is_some (next_served o)
  turns_any zero = or_nothing (has StreamTurn) ∙ turn_any
  turns_any (suc n) = ap₂ (λ (a b : Bool). a || b) turn_any (turns_any n) ∙ either_same (is_some (next_served o))

  any_source : (n : ℕ) → list_any has (sources (suc n) o) ≡ (has_queued o || has_request goes o s)
  any_source n =
      let either : Bool → Bool → Bool = λ a b. a || b in
      list_any-append has (waiting_answers o) (aborts ++ (requests ++ (waiting_messages o ++ turns (suc n))))
      ∙ ap₂ either answers_any
      (list_any-append has aborts (requests ++ (waiting_messages o ++ turns (suc n)))
      ∙ ap₂ either aborts_any
      (list_any-append has requests (waiting_messages o ++ turns (suc n))
      ∙ ap₂ either requests_any
      (list_any-append has (waiting_messages o) (turns (suc n)) ∙ ap₂ either messages_any (turns_any n))))
      ∙ third_last (is_some (slice_get o.answers 0)) (has_abort o) (has_request goes o s) (has_message o)
      (is_some (next_served o))

  -- how often the streams have a turn doesn't matter
  pub more_turns : (limit : ℕ) → 1 ≤ limit → list_any has (sources limit o) ≡ list_any has (sources 1 o)
  more_turns zero some = absurd (omega (arith, some))
  more_turns (suc n) some = any_source n ∙ sym (any_source zero)

  pub has_record_is : has_record goes o s
      ≡ (not (all_suspended o.peer_fcs) && (has_queued o || has_request goes o s))
  has_record_is = ap (λ b. not (all_suspended o.peer_fcs) && b) (any_source zero)

  -- a customer without files
  none_for : (ks : List ℕ) → s.whole ≡ [] → list_any (has_file_for goes o s) ks ≡ false
  none_for [] none = refl
  none_for (k ∷ ks) none =
      ap₂ (λ (a b : Bool). a || b)
      (ap (λ f. may_ask o k && is_some f) (find_none none) ∙ never (may_ask o k)) (none_for ks none)
    where
      find_none : s.whole ≡ [] → oldest goes (kind_of k) s ≡ None
      find_none e = ap (λ (fs : List WholeFile). find (may_go goes (kind_of k)) fs) e

      never : (b : Bool) → (b && false) ≡ false
      never true = refl
      never false = refl

  pub no_request : length s.whole ≡ 0 → has_request goes o s ≡ false
  no_request none = none_for streams (empty_is s.whole none)
    where
      empty_is : (fs : List WholeFile) → length fs ≡ 0 → fs ≡ []
      empty_is [] e = refl
      empty_is (f ∷ fs) e = absurd (omega (arith, e))

  -- ---- a stream that asks

  pub not_idle : (k : ℕ) → may_ask o k ≡ false → has_file_for goes o s k ≡ false
  not_idle k e = ap (λ b. b && is_some (oldest goes (kind_of k) s)) e

  -- by the number of the file that is found
  pub file_found : (k : ℕ) (kind : Kind) (n : Option ℕ) → may_ask o k ≡ true → kind ≡ kind_of k
      → n ≡ option_map (λ f. f.number) (oldest goes kind s)
      → has_file_for goes o s k ≡ is_some n
  file_found k kind n e same is =
      ap (λ b. b && is_some (oldest goes (kind_of k) s)) e
      ∙ sym (some_of_map (λ (f : WholeFile). f.number) (oldest goes (kind_of k) s))
      ∙ ap (λ t. is_some (option_map (λ (f : WholeFile). f.number) (oldest goes t s))) (sym same)
      ∙ ap is_some (sym is)

-- by a search for the same line
module _ (entry : NamedCustomer) (id : LineId) (y : FileCursor)
    (line : y ≡ record (first_file entry id) { sysin = y.sysin; sysout = y.sysout }) where
  pub file_for_is : (o : Outlet) (k : ℕ) (b : Bool) (spools : List CustomerSpool)
      → b ≡ has_file_for (goes_of y) o (files_of y spools) k
      → b ≡ has_file_for (goes_by (entry_of entry) id.number) o (spool_at id.customer spools) k
  file_for_is o k b spools e =
      subst (λ (x : FileCursor). b ≡ has_file_for (goes_of x) o (files_of x spools) k) line e

-- ---- looked for among the streams

module _ (q : ℕ → Bool) where
  pub found_stream : (place k : ℕ) → place < 8 → k ≡ place → q k ≡ true → list_any q (drop place streams) ≡ true
  found_stream place k h at e =
      ap (λ more. list_any q more) (drop_at streams place place (stream_at place h))
      ∙ ap (λ b. b || list_any q (drop (place + 1) streams)) (ap q (sym at) ∙ e)

  pub passed_stream : (place k : ℕ) → place < 8 → k ≡ place → q k ≡ false
      → list_any q (drop place streams) ≡ list_any q (drop (place + 1) streams)
  passed_stream place k h at e =
      ap (λ more. list_any q more) (drop_at streams place place (stream_at place h))
      ∙ ap (λ b. b || list_any q (drop (place + 1) streams)) (ap q (sym at) ∙ e)

  pub no_stream : (place : ℕ) → place ≡ 8 → list_any q (drop place streams) ≡ false
  no_stream place e = ap (λ more. list_any q more) (no_streams place e)
