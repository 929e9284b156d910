-- What sources leave alone: the block's limit, and all but one kind the nodal messages that wait.
use Rattle.std.proofs.Common.{◌≡◌, ℕ, zero, suc, Bool, true, false, ◌&&◌, List, [], ◌∷◌, ◌++◌, replicate, Option, Some}
use Rattle.std.proofs.Common.{None, option_map, refl, sym, ap, ◌∙◌}
use Rattle.std.specs.List.{list_all}
use Rattle.njh_block.specs.declared.answer.Answer.{Answer}
use Rattle.njh_block.specs.Writing.{Writing, has_room}
use Rattle.njh_spool.specs.CustomerSpool.{CustomerSpool, WholeFile}
use Rattle.njh_stream.specs.declared.sender.Sender.{Sender}
use Rattle.njh_stream.specs.declared.sender.Sender.TheVariants.{Idle, Requested, Sending, EofSent, Aborting}
use Rattle.njh_sched.specs.NextBlock.{Outlet, Candidate, Filling, Source, WaitingAnswer, StreamAbort, StreamRequest}
use Rattle.njh_sched.specs.NextBlock.{WaitingMessage, StreamTurn, answering, abort_where, asking, added_where}
use Rattle.njh_sched.specs.NextBlock.{after_candidate, after_source, after_source_where, after_sources, candidate}
use Rattle.njh_sched.specs.NextBlock.{filling, may_ask, sender_at, waiting_messages, aborts, requests, streams}
use Rattle.njh_sched.specs.code.Filling.{filling_where}
use Rattle.njh_sched.proofs.SourceLists.{one_behind_others, full_stays}

module _ (goes : WholeFile → Bool) where
  limit_by_room : (b : Bool) (c : Candidate) (x : Filling) → (added_where b c x).block.limit ≡ x.block.limit
  limit_by_room true c x = refl
  limit_by_room false c x = refl

  limit_by_candidate : (c : Option Candidate) (x : Filling) → (after_candidate c x).block.limit ≡ x.block.limit
  limit_by_candidate None x = refl
  limit_by_candidate (Some c) x = limit_by_room (has_room x.block c.item) c x

  limit_by_source : (source : Source) (x : Filling) → (after_source goes source x).block.limit ≡ x.block.limit
  unfolding after_source
  limit_by_source source x = by_full x.full
    where
      by_full : (b : Bool) → (after_source_where b goes source x).block.limit ≡ x.block.limit
      by_full true = refl
      by_full false = limit_by_candidate (candidate goes source x.outlet x.spool) x

  limit_kept : (more : List Source) (x : Filling) → (after_sources goes more x).block.limit ≡ x.block.limit
  unfolding after_sources
  limit_kept [] x = refl
  limit_kept (source ∷ more) x = limit_kept more (after_source goes source x) ∙ limit_by_source source x

  -- ---- the nodal messages that wait

  abbrev KeptBy : Option Candidate → Outlet → Type 0
  KeptBy None o = Unit {0}
  KeptBy (Some c) o = waiting_messages c.outlet ≡ waiting_messages o

  by_answer : (a : Option Answer) (o : Outlet) (s : CustomerSpool) → KeptBy (option_map (answering o s) a) o
  by_answer None o s = tt
  by_answer (Some a) o s = refl

  by_abort : (x : Sender) (o : Outlet) (s : CustomerSpool) (k : ℕ) → KeptBy (abort_where x o s k) o
  by_abort Idle o s k = tt
  by_abort (Requested n) o s k = tt
  by_abort (Sending n place) o s k = tt
  by_abort (EofSent n) o s k = tt
  by_abort Aborting o s k = refl

  by_request :
      (b : Bool) (f : Option WholeFile) (o : Outlet) (s : CustomerSpool) (k : ℕ)
      → KeptBy (elim b [ false ↦ None | true ↦ option_map (λ x. asking o s k x.number) f ]) o
  by_request false f o s k = tt
  by_request true None o s k = tt
  by_request true (Some f) o s k = refl

  messages_by_room : (b : Bool) (c : Candidate) (x : Filling) → waiting_messages c.outlet ≡ waiting_messages x.outlet
      → waiting_messages (added_where b c x).outlet ≡ waiting_messages x.outlet
  messages_by_room true c x e = e
  messages_by_room false c x e = refl

  messages_by_candidate : (c : Option Candidate) (x : Filling) → KeptBy c x.outlet
      → waiting_messages (after_candidate c x).outlet
      ≡ waiting_messages x.outlet
  messages_by_candidate None x e = refl
  messages_by_candidate (Some c) x e = messages_by_room (has_room x.block c.item) c x e

  -- it adds no nodal message and no record
  abbrev is_short : Source → Bool
  is_short WaitingAnswer = true
  is_short (StreamAbort k) = true
  is_short (StreamRequest k) = true
  is_short WaitingMessage = false
  is_short StreamTurn = false

  by_source : (source : Source) (x : Filling) → is_short source ≡ true
      → KeptBy (candidate goes source x.outlet x.spool) x.outlet
  by_source WaitingAnswer x e = by_answer _ x.outlet x.spool
  by_source (StreamAbort k) x e = by_abort (sender_at k x.outlet) x.outlet x.spool k
  by_source (StreamRequest k) x e = by_request (may_ask x.outlet k) _ x.outlet x.spool k
  by_source WaitingMessage x e = absurd (cc e)
  by_source StreamTurn x e = absurd (cc e)

  messages_by_source : (source : Source) (x : Filling) → is_short source ≡ true
      → waiting_messages (after_source goes source x).outlet ≡ waiting_messages x.outlet
  unfolding after_source
  messages_by_source source x e = by_full x.full
    where
      by_full : (b : Bool) → waiting_messages (after_source_where b goes source x).outlet ≡ waiting_messages x.outlet
      by_full true = refl
      by_full false = messages_by_candidate (candidate goes source x.outlet x.spool) x (by_source source x e)

  messages_kept : (more : List Source) (x : Filling) → list_all is_short more ≡ true
      → waiting_messages (after_sources goes more x).outlet ≡ waiting_messages x.outlet
  unfolding after_sources
  messages_kept [] x e = refl
  messages_kept (source ∷ more) x e = at_test (is_short source) refl e (messages_kept more (after_source goes source x))
    where
      at_test :
          (b : Bool) → is_short source ≡ b → (b && list_all is_short more) ≡ true
          → (list_all is_short more ≡ true
          → waiting_messages (after_sources goes more (after_source goes source x)).outlet ≡ waiting_messages
          (after_source goes source x).outlet)
          → waiting_messages (after_sources goes more (after_source goes source x)).outlet ≡ waiting_messages x.outlet
      at_test true f h kept = kept h ∙ messages_by_source source x f
      at_test false f h kept = absurd (cc h)

  short_answers : (n : ℕ) → list_all is_short (replicate n WaitingAnswer) ≡ true
  short_answers zero = refl
  short_answers (suc n) = short_answers n

  short_aborts : list_all is_short aborts ≡ true
  unfolding streams
  short_aborts = refl

  short_requests : list_all is_short requests ≡ true
  unfolding streams
  short_requests = refl

  -- ---- one list of sources behind another

  -- what a list of sources led to, and what is left alone by it
  module _ (first : List Source) (b : Bool) (w v : Writing) (o p : Outlet) (s r : CustomerSpool) where
    pub limit_is : after_sources goes first (filling w o s) ≡ filling_where b v p r → v.limit ≡ w.limit
    limit_is e = sym (ap (λ y. y.block.limit) e) ∙ limit_kept first (filling w o s)

    messages_are : list_all is_short first ≡ true → after_sources goes first (filling w o s) ≡ filling_where b v p r
        → waiting_messages p ≡ waiting_messages o
    messages_are short e = sym (ap (λ y. waiting_messages y.outlet) e) ∙ messages_kept first (filling w o s) short

    pub goes_on : (then : List Source) → b ≡ true → after_sources goes first (filling w o s) ≡ filling_where b v p r
        → after_sources goes (first ++ then) (filling w o s) ≡ after_sources goes then (filling v p r)
    goes_on then room e =
        one_behind_others goes first then (filling w o s)
        ∙ ap (after_sources goes then) (e ∙ ap (λ t. filling_where t v p r) room)

    pub stops : (then : List Source) → b ≡ false → after_sources goes first (filling w o s) ≡ filling_where b v p r
        → after_sources goes (first ++ then) (filling w o s) ≡ filling_where false v p r
    stops then room e =
        one_behind_others goes first then (filling w o s)
        ∙ ap (after_sources goes then) (e ∙ ap (λ t. filling_where t v p r) room)
        ∙ full_stays goes then v p r

  module _ (b : Bool) (w v : Writing) (o p : Outlet) (s r : CustomerSpool) where
    pub messages_behind_answers : (n : ℕ) → after_sources goes (replicate n WaitingAnswer) (filling w o s)
        ≡ filling_where b v p r
        → waiting_messages p ≡ waiting_messages o
    messages_behind_answers n e = messages_are (replicate n WaitingAnswer) b w v o p s r (short_answers n) e

    pub messages_behind_aborts : after_sources goes aborts (filling w o s) ≡ filling_where b v p r
        → waiting_messages p ≡ waiting_messages o
    messages_behind_aborts e = messages_are aborts b w v o p s r short_aborts e

    pub messages_behind_requests : after_sources goes requests (filling w o s) ≡ filling_where b v p r
        → waiting_messages p
        ≡ waiting_messages o
    messages_behind_requests e = messages_are requests b w v o p s r short_requests e
