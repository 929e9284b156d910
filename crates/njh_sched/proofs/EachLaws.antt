-- Sources one after the other, as a stream is moved by them.
use Rattle.std.proofs.Common.{◌≡◌, ◌<◌, ℕ, Bool, true, false, List, [], ◌∷◌, length, Option, Some, None, option_map}
use Rattle.std.proofs.Common.{slice_get, refl, sym, subst}
use Rattle.std.proofs.Math.ListN.{length-set}
use Rattle.njh_block.specs.declared.answer.Answer.{Answer}
use Rattle.njh_block.specs.Codes.{kind_of}
use Rattle.njh_block.specs.Writing.{has_room}
use Rattle.njh_spool.specs.CustomerSpool.{CustomerSpool, WholeFile}
use Rattle.njh_stream.specs.declared.sender.Sender.{Sender}
use Rattle.njh_stream.specs.declared.sender.Sender.TheVariants.{Idle, Requested, Sending, EofSent, Aborting}
use Rattle.njh_sched.specs.NextBlock.{Outlet, Candidate, Filling, Source, WaitingAnswer, StreamAbort, StreamRequest}
use Rattle.njh_sched.specs.NextBlock.{WaitingMessage, StreamTurn, answering, telling, abort_where, asking, may_ask}
use Rattle.njh_sched.specs.NextBlock.{oldest, next_served, sender_at, added_where, after_candidate, after_source}
use Rattle.njh_sched.specs.NextBlock.{after_source_where, candidate}
use Rattle.njh_sched.specs.Laws.{EachDoes}
use Rattle.njh_sched.proofs.StreamLaws.{does}
use Rattle.njh_sched.proofs.TurnLaws.{served_by}

-- there are as many streams
abbrev AsMany : Option Candidate → Outlet → Type 0
AsMany None o = Unit {0}
AsMany (Some c) o = length c.outlet.senders ≡ length o.senders

by_answer : (a : Option Answer) (o : Outlet) (s : CustomerSpool) → AsMany (option_map (answering o s) a) o
by_answer None o s = tt
by_answer (Some a) o s = refl

by_abort : (x : Sender) (o : Outlet) (s : CustomerSpool) (k : ℕ) → AsMany (abort_where x o s k) o
by_abort Idle o s k = tt
by_abort (Requested n) o s k = tt
by_abort (Sending n place) o s k = tt
by_abort (EofSent n) o s k = tt
by_abort Aborting o s k = simp length-set

by_request :
    (b : Bool) (f : Option WholeFile) (o : Outlet) (s : CustomerSpool) (k : ℕ)
    → AsMany (elim b [ false ↦ None | true ↦ option_map (λ x. asking o s k x.number) f ]) o
by_request false f o s k = tt
by_request true None o s k = tt
by_request true (Some f) o s k = simp length-set

by_message : (m : Option (List ℕ)) (o : Outlet) (s : CustomerSpool) → AsMany (option_map (telling o s) m) o
by_message None o s = tt
by_message (Some m) o s = refl

by_turn : (k : Option ℕ) (o : Outlet) (s : CustomerSpool) → AsMany (option_map (served_by o s) k) o
by_turn None o s = tt
by_turn (Some k) o s = simp length-set

module _ (goes : WholeFile → Bool) where
  by_source : (source : Source) (o : Outlet) (s : CustomerSpool) → AsMany (candidate goes source o s) o
  by_source WaitingAnswer o s = by_answer (slice_get o.answers 0) o s
  by_source (StreamAbort k) o s = by_abort (sender_at k o) o s k
  by_source (StreamRequest k) o s = by_request (may_ask o k) (oldest goes (kind_of k) s) o s k
  by_source WaitingMessage o s = by_message (slice_get o.messages 0) o s
  by_source StreamTurn o s = by_turn (next_served o) o s

  by_room : (b : Bool) (c : Candidate) (x : Filling) → length c.outlet.senders ≡ length x.outlet.senders
      → length (added_where b c x).outlet.senders ≡ length x.outlet.senders
  by_room true c x e = e
  by_room false c x e = refl

  by_candidate : (c : Option Candidate) (x : Filling) → AsMany c x.outlet → length (after_candidate c x).outlet.senders
      ≡ length x.outlet.senders
  by_candidate None x e = refl
  by_candidate (Some c) x e = by_room (has_room x.block c.item) c x e

  as_many : (source : Source) (x : Filling)
      → length (after_source goes source x).outlet.senders ≡ length x.outlet.senders
  unfolding after_source
  as_many source x = by_full x.full
    where
      by_full : (b : Bool) → length (after_source_where b goes source x).outlet.senders ≡ length x.outlet.senders
      by_full true = refl
      by_full false = by_candidate (candidate goes source x.outlet x.spool) x (by_source source x.outlet x.spool)

  pub each_does : (k : ℕ) (sources : List Source) (x : Filling) → k < 8 → k < length x.outlet.senders
      → EachDoes goes k sources x
  each_does k [] x few inside = tt
  each_does k (source ∷ more) x few inside = (
    does goes k x inside source few,
    each_does k more (after_source goes source x) few (subst (λ n. k < n) (sym (as_many source x)) inside),
  )
