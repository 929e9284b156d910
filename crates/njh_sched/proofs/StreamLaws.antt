-- What one source does to a stream.
use Rattle.std.proofs.Common.{◌≡◌, ◌<◌, ℕ, zero, suc, ◌+◌, ◌%◌, Bool, true, false, ◌&&◌, List, [], ◌∷◌, ◌++◌, length}
use Rattle.std.proofs.Common.{map, find, cond, Option, Some, None, option_map, slice_get, set, get_or, ◌==◌, refl, sym}
use Rattle.std.proofs.Common.{ap, subst, ◌∙◌, not-suc-le-zero, le_of_suc-le-suc, lit<}
use Rattle.std.proofs.Math.Nat.{mod-lt}
use Rattle.std.proofs.lemmas.List.{get_or-set_same, get_or-set_other}
use Rattle.std.proofs.lemmas.Bool.{eqb-true, eqb-false}
use Rattle.njh_block.specs.Blocks.{Item, rcb_of, is_on, stream_of}
use Rattle.njh_block.specs.Codes.{kind_of}
use Rattle.njh_block.specs.Writing.{has_room}
use Rattle.njh_block.specs.declared.answer.Answer.{Answer}
use Rattle.njh_record.specs.Stored.{Stored}
use Rattle.njh_spool.specs.CustomerSpool.{WholeFile}
use Rattle.njh_stream.specs.Sending.{next_of}
use Rattle.njh_stream.specs.declared.sender.Sender.{Sender}
use Rattle.njh_stream.specs.declared.sender.Sender.TheVariants.{Idle, Requested, Sending, EofSent, Aborting}
use Rattle.njh_sched.specs.NextBlock.{Outlet, Candidate, Filling, Source, WaitingAnswer, StreamAbort, StreamRequest}
use Rattle.njh_sched.specs.NextBlock.{WaitingMessage, StreamTurn, answering, telling, giving_up, abort_where, asking}
use Rattle.njh_sched.specs.NextBlock.{is_idle, sends_file, may_ask, may_send, oldest, next_served, data_item, sender_at}
use Rattle.njh_sched.specs.NextBlock.{streams, candidate, added_where, after_candidate, after_source}
use Rattle.njh_sched.specs.NextBlock.{after_source_where}
use Rattle.njh_sched.specs.Laws.{is_under, records_under, Does, left, gives_up, asks, sends}
use Rattle.njh_sched.proofs.TurnLaws.{served_by}

-- an item that isn't under an RCB
left_out : (rcb : ℕ) (i : Item) (is : List Item) → is_under rcb i ≡ false
    → records_under rcb (is ++ i ∷ []) ≡ records_under rcb is
left_out rcb i [] e = ap (λ b. cond b (i ∷ []) []) e
left_out rcb i (j ∷ js) e = ap (λ more. cond (is_under rcb j) (j ∷ more) more) (left_out rcb i js e)

set_other : (xs : List Sender) (k t : ℕ) (x d : Sender) → (t == k) ≡ false → get_or (set xs t x) k d ≡ get_or xs k d
set_other xs k t x d e = get_or-set_other xs t k x d (λ h. eqb-false t k e (sym h))

-- ---- RCBs

no_message : (k : ℕ) → k < 8 → (0x9a == rcb_of k) ≡ false
no_message zero h = refl
no_message (suc zero) h = refl
no_message (suc (suc zero)) h = refl
no_message (suc (suc (suc zero))) h = refl
no_message (suc (suc (suc (suc zero)))) h = refl
no_message (suc (suc (suc (suc (suc zero))))) h = refl
no_message (suc (suc (suc (suc (suc (suc zero)))))) h = refl
no_message (suc (suc (suc (suc (suc (suc (suc zero))))))) h = refl
no_message (suc (suc (suc (suc (suc (suc (suc (suc n)))))))) h =
    absurd (not-suc-le-zero (le_of_suc-le-suc (le_of_suc-le-suc (le_of_suc-le-suc (le_of_suc-le-suc
    (le_of_suc-le-suc (le_of_suc-le-suc (le_of_suc-le-suc (le_of_suc-le-suc h)))))))))

stream_back : (k : ℕ) → k < 8 → stream_of 4 (rcb_of k) ≡ Some k
stream_back zero h = refl
stream_back (suc zero) h = refl
stream_back (suc (suc zero)) h = refl
stream_back (suc (suc (suc zero))) h = refl
stream_back (suc (suc (suc (suc zero)))) h = refl
stream_back (suc (suc (suc (suc (suc zero))))) h = refl
stream_back (suc (suc (suc (suc (suc (suc zero)))))) h = refl
stream_back (suc (suc (suc (suc (suc (suc (suc zero))))))) h = refl
stream_back (suc (suc (suc (suc (suc (suc (suc (suc n)))))))) h =
    absurd (not-suc-le-zero (le_of_suc-le-suc (le_of_suc-le-suc (le_of_suc-le-suc (le_of_suc-le-suc
    (le_of_suc-le-suc (le_of_suc-le-suc (le_of_suc-le-suc (le_of_suc-le-suc h)))))))))

rcbs_differ : (t k : ℕ) → t < 8 → k < 8 → (t == k) ≡ false → (rcb_of t == rcb_of k) ≡ false
rcbs_differ t k h below e = at_test (rcb_of t == rcb_of k) refl
  where
    at_test : (b : Bool) → (rcb_of t == rcb_of k) ≡ b → (rcb_of t == rcb_of k) ≡ false
    at_test true f =
        let same : Some t ≡ Some k = sym (stream_back t h) ∙ ap (stream_of 4) (eqb-true (rcb_of t) (rcb_of k) f)
        ∙ stream_back k below in
        let one : t ≡ k = cc same in
        absurd (eqb-false t k e one)
    at_test false f = f

under_data : (rcb t : ℕ) (r : Option Stored) → is_under rcb (data_item t r) ≡ (rcb_of t == rcb)
under_data rcb t (Some r) = refl
under_data rcb t None = refl

-- ---- the stream whose turn it is

module _ (p : ℕ → Bool) (f : ℕ → ℕ) where
  found_in : (ns : List ℕ) (t : ℕ) → find p (map f ns) ≡ Some t → (p t ≡ true) × ((n : ℕ) × (t ≡ f n))
  found_in [] t e = absurd (cc e)
  found_in (n ∷ ns) t e = at_test (p (f n)) refl e (found_in ns t)
    where
      at_test :
          (b : Bool) → p (f n) ≡ b → cond b (Some (f n)) (find p (map f ns)) ≡ Some t
          → (find p (map f ns) ≡ Some t → (p t ≡ true) × ((m : ℕ) × (t ≡ f m)))
          → (p t ≡ true) × ((m : ℕ) × (t ≡ f m))
      at_test true g h more = let same : f n ≡ t = cc h in (ap p (sym same) ∙ g, (n, sym same))
      at_test false g h more = more h

served_is : (o : Outlet) (t : ℕ) → next_served o ≡ Some t → (may_send o t ≡ true) × (t < 8)
served_is o t e =
    let found : (may_send o t ≡ true) × ((n : ℕ) × (t ≡ (o.served + 1 + n) % 8)) = found_in (may_send o) (λ n.
    (o.served + 1 + n) % 8) streams t e in
    (found.0, subst (λ n. n < 8) (sym found.1.1) (mod-lt (o.served + 1 + found.1.0) (lit< tt)))

and_both : (a b : Bool) → (a && b) ≡ true → (a ≡ true) × (b ≡ true)
and_both true b e = (refl, e)
and_both false b e = absurd (cc e)

module _ (goes : WholeFile → Bool) (k : ℕ) (x : Filling) where
  -- a candidate that is nothing to the stream
  left_by : (b : Bool) (c : Candidate) → sender_at k c.outlet ≡ sender_at k x.outlet
      → is_under (rcb_of k) c.item ≡ false
      → Does goes k x (added_where b c x)
  left_by true c same out = left (record { sender = same; items = left_out (rcb_of k) c.item x.block.items out })
  left_by false c same out = left (record { sender = refl; items = refl })

  by_answer : (a : Option Answer) → Does goes k x (after_candidate (option_map (answering x.outlet x.spool) a) x)
  by_answer None = left (record { sender = refl; items = refl })
  by_answer (Some a) = left_by (has_room x.block (answering x.outlet x.spool a).item) (answering x.outlet x.spool a)
      refl refl

  by_message : (0x9a == rcb_of k) ≡ false → (m : Option (List ℕ)) → Does goes k x (after_candidate (option_map
      (telling x.outlet x.spool) m) x)
  by_message other None = left (record { sender = refl; items = refl })
  by_message other (Some m) = left_by (has_room x.block (telling x.outlet x.spool m).item) (telling x.outlet x.spool m)
      refl other

  module _ (inside : k < length x.outlet.senders) where
    gives_up_by : (b : Bool) → sender_at k x.outlet ≡ Aborting
        → Does goes k x (added_where b (giving_up x.outlet x.spool k) x)
    gives_up_by true e = gives_up (record {
      before = e;
      after = get_or-set_same x.outlet.senders k Idle Idle inside;
      items = left_out (rcb_of k) (giving_up x.outlet x.spool k).item x.block.items refl;
    })
    gives_up_by false e = left (record { sender = refl; items = refl })

    abort_at : (t : ℕ) (b : Bool) → (t == k) ≡ b → sender_at t x.outlet ≡ Aborting
        → Does goes k x (added_where (has_room x.block (giving_up x.outlet x.spool t).item)
        (giving_up x.outlet x.spool t) x)
    abort_at t true e is =
        let same : t ≡ k = eqb-true t k e in
        subst (λ n. Does goes k x (added_where (has_room x.block (giving_up x.outlet x.spool n).item)
        (giving_up x.outlet x.spool n) x)) (sym same)
        (gives_up_by (has_room x.block (giving_up x.outlet x.spool k).item)
        (ap (λ n. sender_at n x.outlet) (sym same) ∙ is))
    abort_at t false e is =
        left_by (has_room x.block (giving_up x.outlet x.spool t).item) (giving_up x.outlet x.spool t)
        (set_other x.outlet.senders k t Idle Idle e) refl

    by_abort : (t : ℕ) (sender : Sender) → sender_at t x.outlet ≡ sender → Does goes k x (after_candidate
        (abort_where sender x.outlet x.spool t) x)
    by_abort t Idle e = left (record { sender = refl; items = refl })
    by_abort t (Requested n) e = left (record { sender = refl; items = refl })
    by_abort t (Sending n place) e = left (record { sender = refl; items = refl })
    by_abort t (EofSent n) e = left (record { sender = refl; items = refl })
    by_abort t Aborting e = abort_at t (t == k) refl e

    idle_is : (sender : Sender) → is_idle sender ≡ true → sender ≡ Idle
    idle_is Idle e = refl
    idle_is (Requested n) e = absurd (cc e)
    idle_is (Sending n place) e = absurd (cc e)
    idle_is (EofSent n) e = absurd (cc e)
    idle_is Aborting e = absurd (cc e)

    asks_by : (b : Bool) (f : WholeFile) → sender_at k x.outlet ≡ Idle → oldest goes (kind_of k) x.spool ≡ Some f
        → Does goes k x (added_where b (asking x.outlet x.spool k f.number) x)
    asks_by true f e is = asks (record {
      before = e;
      file = f;
      is_oldest = is;
      after = get_or-set_same x.outlet.senders k (Requested f.number) Idle inside;
      items = left_out (rcb_of k) (asking x.outlet x.spool k f.number).item x.block.items refl;
    })
    asks_by false f e is = left (record { sender = refl; items = refl })

    asks_at : (t : ℕ) (b : Bool) (f : WholeFile) → (t == k) ≡ b → sender_at t x.outlet ≡ Idle
        → oldest goes (kind_of t) x.spool ≡ Some f
        → Does goes k x (added_where (has_room x.block (asking x.outlet x.spool t f.number).item)
        (asking x.outlet x.spool t f.number) x)
    asks_at t true f e idle is =
        let same : t ≡ k = eqb-true t k e in
        subst (λ n. Does goes k x (added_where (has_room x.block (asking x.outlet x.spool n f.number).item)
        (asking x.outlet x.spool n f.number) x)) (sym same)
        (asks_by (has_room x.block (asking x.outlet x.spool k f.number).item) f
        (ap (λ n. sender_at n x.outlet) (sym same) ∙ idle)
        (ap (λ n. oldest goes (kind_of n) x.spool) (sym same) ∙ is))
    asks_at t false f e idle is =
        left_by (has_room x.block (asking x.outlet x.spool t f.number).item) (asking x.outlet x.spool t f.number)
        (set_other x.outlet.senders k t (Requested f.number) Idle e) refl

    by_request :
        (t : ℕ) (b : Bool) (f : Option WholeFile) → may_ask x.outlet t ≡ b → oldest goes (kind_of t) x.spool ≡ f
        → Does goes k x (after_candidate (elim b
        [ false ↦ None | true ↦ option_map (λ y. asking x.outlet x.spool t y.number) f ]) x)
    by_request t false f e is = left (record { sender = refl; items = refl })
    by_request t true None e is = left (record { sender = refl; items = refl })
    by_request t true (Some f) e is =
        asks_at t (t == k) f refl (idle_is (sender_at t x.outlet) (and_both _ (is_idle (sender_at t x.outlet)) e).1) is

    serves_by : (b : Bool) → is_on x.outlet.peer_fcs k ≡ true → sends_file (sender_at k x.outlet) ≡ true
        → Does goes k x (added_where b (served_by x.outlet x.spool k) x)
    serves_by true on e = sends (record {
      lets = on;
      before = e;
      item = refl;
      after = get_or-set_same x.outlet.senders k (next_of (sender_at k x.outlet) x.spool).sender Idle inside;
    })
    serves_by false on e = left (record { sender = refl; items = refl })

    serves_at : (t : ℕ) (b : Bool) → (t == k) ≡ b → k < 8 → t < 8 → is_on x.outlet.peer_fcs t ≡ true
        → sends_file (sender_at t x.outlet) ≡ true
        → Does goes k x (added_where (has_room x.block (served_by x.outlet x.spool t).item)
        (served_by x.outlet x.spool t) x)
    serves_at t true e few below on is =
        let same : t ≡ k = eqb-true t k e in
        subst (λ n. Does goes k x (added_where (has_room x.block (served_by x.outlet x.spool n).item)
        (served_by x.outlet x.spool n) x)) (sym same)
        (serves_by (has_room x.block (served_by x.outlet x.spool k).item) (ap (is_on x.outlet.peer_fcs) (sym same) ∙ on)
        (ap (λ n. sends_file (sender_at n x.outlet)) (sym same) ∙ is))
    serves_at t false e few below on is =
        left_by (has_room x.block (served_by x.outlet x.spool t).item) (served_by x.outlet x.spool t)
        (set_other x.outlet.senders k t (next_of (sender_at t x.outlet) x.spool).sender Idle e)
        (under_data (rcb_of k) t (next_of (sender_at t x.outlet) x.spool).stored ∙ rcbs_differ t k below few e)

    by_turn : (t : Option ℕ) → k < 8 → next_served x.outlet ≡ t → Does goes k x (after_candidate (option_map
        (served_by x.outlet x.spool) t) x)
    by_turn None few e = left (record { sender = refl; items = refl })
    by_turn (Some t) few e =
        let is : (may_send x.outlet t ≡ true) × (t < 8) = served_is x.outlet t e in
        let both : (is_on x.outlet.peer_fcs t ≡ true) × (sends_file (sender_at t x.outlet) ≡ true)
        = and_both (is_on x.outlet.peer_fcs t) (sends_file (sender_at t x.outlet)) is.0 in
        serves_at t (t == k) refl few is.1 both.0 both.1

    by_source : (source : Source) → k < 8 → Does goes k x (after_candidate (candidate goes source x.outlet x.spool) x)
    by_source WaitingAnswer few = by_answer (slice_get x.outlet.answers 0)
    by_source (StreamAbort t) few = by_abort t (sender_at t x.outlet) refl
    by_source (StreamRequest t) few = by_request t (may_ask x.outlet t) (oldest goes (kind_of t) x.spool) refl refl
    by_source WaitingMessage few = by_message (no_message k few) (slice_get x.outlet.messages 0)
    by_source StreamTurn few = by_turn (next_served x.outlet) few refl

    by_full : (b : Bool) (source : Source) → k < 8 → Does goes k x (after_source_where b goes source x)
    by_full true source few = left (record { sender = refl; items = refl })
    by_full false source few = by_source source few

    pub does : (source : Source) → k < 8 → Does goes k x (after_source goes source x)
    unfolding after_source
    does source few = by_full x.full source few
