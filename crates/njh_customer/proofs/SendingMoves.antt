-- What goes out in a new block moves a line's streams, and what each stream's file has under its RCB.
use Rattle.njh_customer.proofs.Words
use Words.{and_parts, ℕ, zero, suc, Bool, true, false, List, [], length, set, get_or, replicate, arith, nat_lt, Option}
use Words.{Some, None, option_map, slice_get, refl, sym, ap, subst, append-nil, set-set, get_or-set_same, set-get_or}
use Words.{length-map, map-set, AllByRecursion, Stored, Item, all_suspended, messages_on, kind_of, has_room, Answer}
use Words.{WholeFile, whole_numbered, CustomerEntry, goes_by, next_at, next_of, record_at, Sender, Requested, EofSent}
use Words.{Aborting, records_of, Candidate, Filling, Source, WaitingAnswer, StreamAbort, StreamRequest, WaitingMessage}
use Words.{StreamTurn, abort_where, answering, asking, candidate, is_idle, may_ask, next_served, oldest, serving}
use Words.{telling, added_where, after_candidate, after_source_where, Outlet, aborts, filled_where, messages_where}
use Words.{requests, sources, turns, waiting_answers, waiting_messages, filling, own_fcs, replied_to, Customer, line_at}
use Words.{LeadsByMoves, nowhere, onward, Sends, Outgoing, record_numbered, sender_on, with_sender_on, outgoing}
use Words.{streams_from_hub, next_block, outlet_of, own_block, sending_of_reply, map, take, drop, length-drop}
use Words.{length-take-le, rcb_of, end_of_file, file_records, record_item, records_under, sends_file, Carries}
use Words.{length-replicate}
use Rattle.std.proofs.Common.{◌≡◌, ◌<◌, ◌+◌, ◌∷◌, ◌++◌, ◌%◌, ◌∙◌}
use Rattle.njh_stream.specs.declared.sender.Sender.TheVariants.{Idle, Sending}
use Rattle.njh_sched.{proofs.CarryingLaws.{filled_carries, filled_quiet}, specs.NextBlock.{sender_at, after_source}}
use Rattle.{njh_sched.specs.NextBlock.{after_sources, filled_block, streams}, njh_customer.proofs.OutgoingLaws.of_parts}
use Rattle.njh_customer.proofs.{OutgoingLaws.{own_again}, Restated.{IsRestated, as_it_is, marked_restated}}
use Rattle.njh_customer.proofs.Restated.{restated_then}
use Rattle.njh_spool.specs.declared.State.TheVariants as state
use Rattle.njh_line.specs.declared.verdict.LineReply.TheVariants as reply
use Rattle.njh_customer.specs.Moves as moves
use Rattle.njh_customer.specs.FrameEffects as effects
use Rattle.njh_sched.specs.Carrying as carrying

-- ---- where the block's records come from

-- a request is of one of the eight streams
abbrev pub IsOfEight : Source → Type 0
IsOfEight (StreamRequest k) = k < 8
IsOfEight _ = Unit {0}

abbrev pub AreOfEight : List Source → Type 0
AreOfEight more = AllByRecursion IsOfEight more

both_eight : (first second : List Source) → AreOfEight first → AreOfEight second → AreOfEight (first ++ second)
both_eight [] second few more = more
both_eight (x ∷ xs) second few more = (few.0, both_eight xs second few.1 more)

many_eight : (n : ℕ) (x : Source) → IsOfEight x → AreOfEight (replicate n x)
many_eight zero x few = tt
many_eight (suc n) x few = (few, many_eight n x few)

aborts_eight : AreOfEight aborts
unfolding streams
aborts_eight = (tt, (tt, (tt, (tt, (tt, (tt, (tt, (tt, tt))))))))

requests_eight : AreOfEight requests
unfolding streams
requests_eight = (
  omega arith,
  (omega arith, (omega arith, (omega arith, (omega arith, (omega arith, (omega arith, (omega arith, tt))))))),
)

messages_eight : (b : Bool) (messages : List (List ℕ)) → AreOfEight (messages_where b messages)
messages_eight true messages = many_eight (length messages) WaitingMessage tt
messages_eight false messages = tt

sources_eight : (limit : ℕ) (o : Outlet) → AreOfEight (sources limit o)
sources_eight limit o = both_eight (waiting_answers o) (aborts ++ (requests ++ (waiting_messages o ++ turns limit)))
    (many_eight (length o.answers) WaitingAnswer tt)
    (both_eight aborts (requests ++ (waiting_messages o ++ turns limit)) aborts_eight
    (both_eight requests (waiting_messages o ++ turns limit) requests_eight
    (both_eight (waiting_messages o) (turns limit) (messages_eight (messages_on o.peer_fcs) o.messages)
    (many_eight limit StreamTurn tt))))

-- ---- a line's streams while its block is filled

-- the customer's files, and its streams, of which the line's are the block's
abbrev pub out_of : ℕ → List (List Sender) → Filling → Outgoing
out_of l base x = of_parts x.spool.whole x.spool.arrived (set base l x.outlet.senders)

-- a candidate moves nothing, or one stream, as its record says
data OffersOne (entry : CustomerEntry) (l : ℕ) (base : List (List Sender)) (x : Filling) (c : Candidate) : Type 0 where
  same : IsRestated x.spool c.spool
      → out_of l base (record x { outlet = c.outlet; spool = c.spool }) ≡ out_of l base x → OffersOne entry l base x c
  one : IsRestated x.spool c.spool
      → Sends entry l (out_of l base x) (out_of l base (record x { outlet = c.outlet; spool = c.spool }))
      → OffersOne entry l base x c

-- the function control sequence of a block is the same, and of the files all but states of whole ones
pub record Kept (y x : Filling) : Type 0 where
  pub fcs : y.block.fcs ≡ x.block.fcs
  pub files : IsRestated x.spool y.spool

all_kept : (x : Filling) → Kept x x
all_kept x = record { fcs = refl; files = as_it_is x.spool }

-- a source moves nothing, or one stream, and then the block has one record more
data GivesOne (entry : CustomerEntry) (l : ℕ) (base : List (List Sender)) (x y : Filling) : Type 0 where
  nothing : Kept y x → out_of l base y ≡ out_of l base x → (more : List Item)
      → y.block.items ≡ x.block.items ++ more → GivesOne entry l base x y
  a_record : Kept y x → Sends entry l (out_of l base x) (out_of l base y) → (i : Item)
      → y.block.items ≡ x.block.items ++ i ∷ [] → GivesOne entry l base x y

module _ (entry : CustomerEntry) (l : ℕ) (base : List (List Sender)) (inside : l < length base) where
  pub stream_now : (k : ℕ) (x : Filling) → sender_on l k (out_of l base x) ≡ sender_at k x.outlet
  stream_now k x = ap (λ senders. get_or senders k Idle) (get_or-set_same base l x.outlet.senders [] inside)

  -- the line's streams with another
  set_again : (senders : List Sender) (k : ℕ) (s : Sender)
      → set base l (set senders k s) ≡ set (set base l senders) l (set (get_or (set base l senders) l []) k s)
  set_again senders k s = sym (set-set base l senders (set senders k s))
      ∙ ap (λ now. set (set base l senders) l (set now k s)) (sym (get_or-set_same base l senders [] inside))

  abbrev Offers : Filling → Candidate → Type 0
  Offers x c = OffersOne entry l base x c

  abbrev OffersIf : Filling → Option Candidate → Type 0
  OffersIf x None = Unit {0}
  OffersIf x (Some c) = Offers x c

  offers_map : {A : Type 0} (x : Filling) (f : A → Candidate) (o : Option A) → ((a : A) → o ≡ Some a → Offers x (f a))
      → OffersIf x (option_map f o)
  offers_map x f None each = tt
  offers_map x f (Some a) each = each a refl

  moved_is : (x : Filling) (k : ℕ) (s : Sender) (files : List WholeFile)
      → of_parts files x.spool.arrived (set base l (set x.outlet.senders k s)) ≡ with_sender_on l k s
      (of_parts files x.spool.arrived (set base l x.outlet.senders))
  moved_is x k s files = ap (of_parts files x.spool.arrived) (set_again x.outlet.senders k s)

  offers_abort : (x : Filling) (k : ℕ) (s : Sender) → sender_at k x.outlet ≡ s
      → OffersIf x (abort_where s x.outlet x.spool k)
  offers_abort x k Aborting e =
      one (as_it_is x.spool) (moves.gives_up k (stream_now k x ∙ e) (moved_is x k Idle x.spool.whole))
  offers_abort x k _ e = tt

  idle_is : (s : Sender) → is_idle s ≡ true → s ≡ Idle
  idle_is Idle e = refl
  idle_is _ e = absurd (cc e)

  offers_request : (x : Filling) (k : ℕ) (b : Bool) → k < 8 → may_ask x.outlet k ≡ b → OffersIf x (elim b [
    | false ↦ None
    | true ↦ option_map (λ f. asking x.outlet x.spool k f.number) (oldest (goes_by entry l) (kind_of k) x.spool)
  ])
  offers_request x k false few e = tt
  offers_request x k true few e = offers_map {A = WholeFile} x (λ f. asking x.outlet x.spool k f.number)
      (oldest (goes_by entry l) (kind_of k) x.spool)
      (λ f found. one (marked_restated f.number state.Sending x.spool) (moves.asks k f few (stream_now k x ∙ idle_is (sender_at k x.outlet)
      (and_parts (nat_lt (k % 4) x.outlet.streams) (is_idle (sender_at k x.outlet)) e).1) found
      (moved_is x k (Requested f.number) (asking x.outlet x.spool k f.number).spool.whole)))

  at_place : (n place : ℕ) (x : Filling) → record_at n place x.spool ≡ record_numbered n place (out_of l base x)
  at_place n place x = at_file (whole_numbered n x.spool)
    where
      at_file : (o : Option WholeFile) → elim o [ Some f ↦ slice_get f.records place | None ↦ None ] ≡ slice_get
          (records_of o) place
      at_file None = refl
      at_file (Some f) = refl

  -- a stream that isn't sending stays
  left_as_it_is : (x : Filling) (k : ℕ) (s : Sender) → sender_at k x.outlet ≡ s
      → out_of l base (record x { outlet = record x.outlet { senders = set x.outlet.senders k s } }) ≡ out_of l base x
  left_as_it_is x k s e =
      ap (λ t. of_parts x.spool.whole x.spool.arrived (set base l (set x.outlet.senders k t))) (sym e)
      ∙ ap (λ senders. of_parts x.spool.whole x.spool.arrived (set base l senders)) (set-get_or x.outlet.senders k Idle)

  offers_next : (x : Filling) (k n place : ℕ) (o : Option Stored) → sender_at k x.outlet ≡ Sending n place
      → record_at n place x.spool ≡ o → Offers x (serving x.outlet x.spool k (next_at n place o))
  offers_next x k n place (Some r) e found =
      one (as_it_is x.spool) (moves.goes_on k n place r (stream_now k x ∙ e) (sym (at_place n place x) ∙ found)
      (moved_is x k (Sending n (place + 1)) x.spool.whole))
  offers_next x k n place None e found =
      one (as_it_is x.spool) (moves.ends k n place (stream_now k x ∙ e) (sym (at_place n place x) ∙ found)
      (moved_is x k (EofSent n) x.spool.whole))

  offers_turn : (x : Filling) (k : ℕ) (s : Sender) → sender_at k x.outlet ≡ s
      → Offers x (serving x.outlet x.spool k (next_of s x.spool))
  offers_turn x k (Sending n place) e = offers_next x k n place (record_at n place x.spool) e refl
  offers_turn x k s e = same (as_it_is x.spool) (left_as_it_is x k s e)

  offers : (source : Source) (x : Filling) → IsOfEight source
      → OffersIf x (candidate (goes_by entry l) source x.outlet x.spool)
  offers WaitingAnswer x few = offers_map {A = Answer} x (answering x.outlet x.spool) (slice_get x.outlet.answers 0)
      (λ a found. same (as_it_is x.spool) refl)
  offers (StreamAbort k) x few = offers_abort x k (sender_at k x.outlet) refl
  offers (StreamRequest k) x few = offers_request x k (may_ask x.outlet k) few refl
  offers WaitingMessage x few = offers_map {A = List ℕ} x (telling x.outlet x.spool) (slice_get x.outlet.messages 0)
      (λ m found. same (as_it_is x.spool) refl)
  offers StreamTurn x few =
      offers_map {A = ℕ} x (λ k. serving x.outlet x.spool k (next_of (sender_at k x.outlet) x.spool))
      (next_served x.outlet) (λ k found. offers_turn x k (sender_at k x.outlet) refl)

  abbrev Gives : Filling → Filling → Type 0
  Gives x y = GivesOne entry l base x y

  gives_candidate : (x : Filling) (o : Option Candidate) → OffersIf x o → Gives x (after_candidate o x)
  gives_candidate x None h = nothing (all_kept x) refl [] (sym (append-nil x.block.items))
  gives_candidate x (Some c) h = at_room (has_room x.block c.item) h
    where
      at_room : (b : Bool) → Offers x c → Gives x (added_where b c x)
      at_room true (same kept e) = nothing (record { fcs = refl; files = kept }) e (c.item ∷ []) refl
      at_room true (one kept s) = a_record (record { fcs = refl; files = kept }) s c.item refl
      at_room false h =
          nothing (record { fcs = refl; files = as_it_is x.spool }) refl [] (sym (append-nil x.block.items))

  gives : (source : Source) (x : Filling) → IsOfEight source → Gives x (after_source (goes_by entry l) source x)
  unfolding after_source
  gives source x few = elim (x.full) as (λ b. Gives x (after_source_where b (goes_by entry l) source x)) [
    | true ↦ nothing (all_kept x) refl [] (sym (append-nil x.block.items))
    | false ↦ gives_candidate x (candidate (goes_by entry l) source x.outlet x.spool) (offers source x few)
  ]

  -- all sources, one after the other
  step_on : (x y : Filling) (z : Outgoing) → Gives x y → LeadsByMoves (Sends entry l) (out_of l base y) z
      → LeadsByMoves (Sends entry l) (out_of l base x) z
  step_on x y z (nothing kept e more items) later = subst (λ w. LeadsByMoves (Sends entry l) w z) e later
  step_on x y z (a_record kept s i items) later = onward (out_of l base x) (out_of l base y) z s later

  all_lead : (more : List Source) (x : Filling) → AreOfEight more
      → LeadsByMoves (Sends entry l) (out_of l base x) (out_of l base (after_sources (goes_by entry l) more x))
  unfolding after_sources
  all_lead [] x few = nowhere (out_of l base x)
  all_lead (source ∷ more) x few =
      let y = after_source (goes_by entry l) source x in
      step_on x y (out_of l base (after_sources (goes_by entry l) more y)) (gives source x few.0)
      (all_lead more y few.1)

  gave_kept : (x y : Filling) → Gives x y → Kept y x
  gave_kept x y (nothing kept e more items) = kept
  gave_kept x y (a_record kept s i items) = kept

  sources_kept : (more : List Source) (x : Filling) → AreOfEight more
      → Kept (after_sources (goes_by entry l) more x) x
  unfolding after_sources
  sources_kept [] x few = all_kept x
  sources_kept (source ∷ more) x few =
      let y = after_source (goes_by entry l) source x in
      let first = gave_kept x y (gives source x few.0) in
      let later = sources_kept more y few.1 in
      let z = after_sources (goes_by entry l) more y in
      record { fcs = later.fcs ∙ first.fcs; files = restated_then x.spool y.spool z.spool first.files later.files }

  block_kept : (x : Filling) → Kept (filled_block (goes_by entry l) x) x
  unfolding filled_block
  block_kept x = elim (all_suspended x.outlet.peer_fcs) as (λ b. Kept (filled_where b (goes_by entry l) x) x) [
    | true ↦ all_kept x
    | false ↦ sources_kept (sources x.block.limit x.outlet) x (sources_eight x.block.limit x.outlet)
  ]

  -- a block without records has moved nothing
  no_records : (xs ys : List Item) → xs ++ ys ≡ [] → xs ≡ []
  no_records [] ys e = refl
  no_records (x ∷ xs) ys e = absurd (cc e)

  not_one_more : (xs : List Item) (i : Item) → xs ++ i ∷ [] ≡ [] → ⊥
  not_one_more [] i e = cc e
  not_one_more (x ∷ xs) i e = cc e

  gave_none : (x y : Filling) → Gives x y → y.block.items ≡ []
      → (x.block.items ≡ []) × (out_of l base y ≡ out_of l base x)
  gave_none x y (nothing kept e more items) none = (no_records x.block.items more (sym items ∙ none), e)
  gave_none x y (a_record kept s i items) none = absurd (not_one_more x.block.items i (sym items ∙ none))

  all_gave_none :
      (more : List Source) (x : Filling) → AreOfEight more → (after_sources (goes_by entry l) more x).block.items ≡ []
      → (x.block.items ≡ []) × (out_of l base (after_sources (goes_by entry l) more x) ≡ out_of l base x)
  unfolding after_sources
  all_gave_none [] x few none = (none, refl)
  all_gave_none (source ∷ more) x few none =
      let y = after_source (goes_by entry l) source x in
      let later = all_gave_none more y few.1 none in
      let first = gave_none x y (gives source x few.0) later.0 in
      (first.0, later.1 ∙ first.1)

  pub filled_leads : (x : Filling) → LeadsByMoves (Sends entry l) (out_of l base x)
      (out_of l base (filled_block (goes_by entry l) x))
  unfolding filled_block
  filled_leads x = elim (all_suspended x.outlet.peer_fcs) as
      (λ b. LeadsByMoves (Sends entry l) (out_of l base x) (out_of l base (filled_where b (goes_by entry l) x))) [
        | true ↦ nowhere (out_of l base x)
        | false ↦ all_lead (sources x.block.limit x.outlet) x (sources_eight x.block.limit x.outlet)
      ]

  pub filled_with_none : (x : Filling) → (filled_block (goes_by entry l) x).block.items ≡ []
      → out_of l base (filled_block (goes_by entry l) x) ≡ out_of l base x
  unfolding filled_block
  filled_with_none x = at_suspended (all_suspended x.outlet.peer_fcs)
    where
      at_suspended : (b : Bool) → (filled_where b (goes_by entry l) x).block.items ≡ []
          → out_of l base (filled_where b (goes_by entry l) x) ≡ out_of l base x
      at_suspended true none = refl
      at_suspended false none = (all_gave_none (sources x.block.limit x.outlet) x
          (sources_eight x.block.limit x.outlet) none).1

pub filled_kept : (entry : CustomerEntry) (l : ℕ) (x : Filling) → Kept (filled_block (goes_by entry l) x) x
filled_kept entry l = block_kept entry l (replicate (suc l) [])
    (omega (arith, length-replicate {A = List Sender} (suc l) []))

-- ---- the next block of a line

-- the block that is filled
abbrev pub filling_on : ℕ → Customer → Filling
filling_on l c = let x = line_at l c.lines in filling (own_block (own_fcs c.spool) x.state) (outlet_of x) c.spool

pub next_begins : (l : ℕ) (c : Customer) → out_of l (streams_from_hub c.lines) (filling_on l c) ≡ outgoing c
next_begins l c = ap (of_parts c.spool.whole c.spool.arrived) (own_again l c.lines)

pub next_leads : (l : ℕ) (c : Customer) → l < length c.lines → LeadsByMoves (Sends c.entry l) (outgoing c)
    (out_of l (streams_from_hub c.lines) (next_block c.entry l c.spool (line_at l c.lines)))
next_leads l c there =
    let base = streams_from_hub c.lines in
    subst (λ x. LeadsByMoves (Sends c.entry l) x (out_of l base (next_block c.entry l c.spool (line_at l c.lines))))
    (next_begins l c)
    (filled_leads c.entry l base (omega (arith, length-map c.lines (λ x. x.senders))) (filling_on l c))

pub next_is : (l : ℕ) (or_ack0 : Bool) (c : Customer) → outgoing (replied_to l (reply.Next or_ack0) c).after
    ≡ out_of l (streams_from_hub c.lines) (next_block c.entry l c.spool (line_at l c.lines))
next_is l or_ack0 c =
    let full = next_block c.entry l c.spool (line_at l c.lines) in
    ap (of_parts full.spool.whole full.spool.arrived) (map-set (λ y. y.senders) c.lines l
    (sending_of_reply c.entry l (reply.Next or_ack0) c.spool (line_at l c.lines)).line)

-- ---- what a block carries

-- what a block carries of each stream's file
pub blocks_carry : (entry : CustomerEntry) (l k : ℕ) (base : List (List Sender)) (x : Filling) → l < length base → k < 8
    → k < length x.outlet.senders → x.block.items ≡ [] → Carries l k (filled_block (goes_by entry l) x).block.items
    (out_of l base x) (out_of l base (filled_block (goes_by entry l) x))
blocks_carry entry l k base x inside few in_line none = at_sender (sender_at k x.outlet) refl
  where
    y : Filling
    y = filled_block (goes_by entry l) x

    before_is : records_under (rcb_of k) x.block.items ≡ []
    before_is = ap (records_under (rcb_of k)) none

    still : (s : Sender) → sender_at k x.outlet ≡ s → sends_file s ≡ false
        → Carries l k y.block.items (out_of l base x) (out_of l base y)
    still s at isnt = effects.nothing (ap sends_file (stream_now entry l base inside k x ∙ at) ∙ isnt)
        (filled_quiet (goes_by entry l) k x few in_line (ap sends_file at ∙ isnt) ∙ before_is)

    sent : (n p : ℕ) → sender_at k x.outlet ≡ Sending n p
        → carrying.Carries k n p (file_records n x.spool) (records_under (rcb_of k) x.block.items) y
        → Carries l k y.block.items (out_of l base x) (out_of l base y)
    sent n p at (carrying.on_its_way m some now items) =
        let records = drop p (file_records n x.spool) in
        effects.on_its_way n p m (stream_now entry l base inside k x ∙ at)
        (length-take-le m records (omega (arith, length-drop p (file_records n x.spool))))
        (stream_now entry l base inside k y ∙ now)
        (items ∙ ap (λ front. front ++ map (record_item k) (take m records)) before_is)
    sent n p at (carrying.at_its_end now items) =
        effects.to_its_end n p (stream_now entry l base inside k x ∙ at) (stream_now entry l base inside k y ∙ now)
        (items ∙ ap (λ front. front ++ (map (record_item k) (drop p (file_records n x.spool)) ++ end_of_file k ∷ []))
        before_is)

    at_sender : (s : Sender) → sender_at k x.outlet ≡ s → Carries l k y.block.items (out_of l base x) (out_of l base y)
    at_sender (Sending n p) at = sent n p at (filled_carries (goes_by entry l) k x few in_line n p at)
    at_sender s at = still s at refl
