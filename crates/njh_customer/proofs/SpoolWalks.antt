-- What is so of a customer's files stays so, whatever comes, where it does in each small step.
use Rattle.njh_customer.proofs.Words
use Words.{ℕ, Bool, true, false, not, List, [], filter, map, refl, sym, ap, subst, is_name, User, Stored, Kind, Item}
use Words.{kind_of, sender_of, CustomerSpool, WholeFile, has_block, has_file_room, has_room_for, partial_records}
use Words.{with_appended, with_finished, with_new_partial, without_partial, Held, Ready, CustomerEntry, RouteEntry}
use Words.{Arrival, closed_by, received_arrival, received_request, requested_where, stored_by, after_completion}
use Words.{after_refusal, all_ended, ready, tried_again, Taken, Cancelled, Fitting, is_whole, judged_coming}
use Words.{verdict_of, with_room, Receiver, Sender, filling, own_fcs, FilesMove, stay, held, released, rerouted}
use Words.{cancelled, CommandOutcome, changed_file, file_in_state, is_of_name, may_change, message_outcome, spool_after}
use Words.{with_new_destination, LineReply, after_record, replied_to, session_over, Customer, line_at, receiver_at}
use Words.{customer_with_routes, entry_with, outlet_of, own_block, GivenOrder, customer_after_order}
use Rattle.{std.proofs.Common.{◌≡◌, ◌&&◌, ◌==◌, ◌∷◌, ◌++◌, ◌∙◌}, njh_block.specs.Blocks.{Control, Data}}
use Rattle.{njh_stream.specs.Transmissions.RecordVerdict, njh_command.proofs.CommandMoves.files_move}
use Rattle.{njh_command.proofs.RerouteNodes.nodes_are_names, njh_customer.proofs.FileListLaws.changed_where}
use Rattle.njh_customer.proofs.RecordsDo.{Brings, a_request, an_abort, some_data, too_long, RecordDoes, record_does}
use Rattle.njh_customer.proofs.Restated.{IsRestated, ended_restated, held_restated, open_so, completed_so}
use Rattle.njh_customer.proofs.SendingMoves.{filled_kept}
use Rattle.njh_customer.{proofs.{Restated.refused_restated, StepWalks.StaysInSteps}, specs.Customer.sender_at}
use Rattle.njh_stream.specs.declared.receiver.Receiver.TheVariants as receiver
use Rattle.njh_line.specs.declared.verdict.LineReply.TheVariants as reply
use Rattle.njh_customer.proofs.RecordsDo as does
use Rattle.njh_customer.specs.declared.given_order.GivenOrder.TheVariants as orders

-- ---- an arrival on a stream to the hub

-- What was so of a customer's files, I, is so without a partial file, and J after an item that brings an arrival.
pub record StaysInArrivals (I : CustomerSpool → Type 0) (J : Item → CustomerSpool → Type 0) : Type 0 where
  pub still : (i : Item) (s : CustomerSpool) → I s → J i s
  pub without : (n : ℕ) (s : CustomerSpool) → I s → I (without_partial n s)
  pub begun : (rcb srcb : ℕ) (kind : Kind) (s : CustomerSpool) → has_file_room s ≡ true → I s
      → J (Control rcb srcb) (with_new_partial kind s)
  pub appended : (rcb : ℕ) (r : Stored) (n : ℕ) (s : CustomerSpool) → has_room_for n r s ≡ true → I s
      → J (Data rcb r.srcb r.bytes) (with_appended n r s)
  pub finished : (rcb srcb n : ℕ) (s : CustomerSpool) → is_whole (partial_records n s) ≡ true → I s
      → J (Data rcb srcb []) (with_finished n s)

-- what is taken fits
was_fitting : (room : Bool) (more : List Stored) (v : RecordVerdict) → with_room room more v ≡ Taken → room ≡ true
was_fitting room more (Cancelled text) e = absurd (cc e)
was_fitting true more Taken e = refl
was_fitting false more Taken e = absurd (cc e)

module _ (I : CustomerSpool → Type 0) (J : Item → CustomerSpool → Type 0) (keep : StaysInArrivals I J) where
  requested_so :
      (rcb srcb : ℕ) (kind : Kind) (s : CustomerSpool) → I s → J (Control rcb srcb) (received_request kind s).spool
  requested_so rcb srcb kind s so = at_room (has_file_room s) (has_block s) refl
    where
      at_room : (b d : Bool) → has_file_room s ≡ b → J (Control rcb srcb) (requested_where (b && d) kind s).spool
      at_room true true e = keep.begun rcb srcb kind s e so
      at_room true false e = keep.still (Control rcb srcb) s so
      at_room false d e = keep.still (Control rcb srcb) s so

  gone : (i : Item) (n : ℕ) (s : CustomerSpool) → I s → J i (without_partial n s)
  gone i n s so = keep.still i (without_partial n s) (keep.without n s so)

  stored_so : (v : RecordVerdict) (rcb : ℕ) (kind : Kind) (n : ℕ) (r : Stored) (more : List Stored) (s : CustomerSpool)
      → (v ≡ Taken → has_room_for n r s ≡ true) → I s → J (Data rcb r.srcb r.bytes) (stored_by v kind n r more s).spool
  stored_so Taken rcb kind n r more s fits so = keep.appended rcb r n s (fits refl) so
  stored_so (Cancelled text) rcb kind n r more s fits so = gone (Data rcb r.srcb r.bytes) n s so

  closed_so : (b : Bool) (rcb srcb n : ℕ) (s : CustomerSpool) → is_whole (partial_records n s) ≡ b → I s
      → J (Data rcb srcb []) (closed_by b n s).spool
  closed_so true rcb srcb n s e so = keep.finished rcb srcb n s e so
  closed_so false rcb srcb n s e so = gone (Data rcb srcb []) n s so

  pub received_so : (entry : CustomerEntry) (l : ℕ) (kind : Kind) (r : Receiver) (a : Arrival) (i : Item)
      (s : CustomerSpool) → Brings a i → I s → J i (received_arrival entry l kind r a s).spool
  received_so entry l kind (receiver.Open n progress) _ _ s (a_request rcb srcb) so =
      requested_so rcb srcb kind (without_partial n s) (keep.without n s so)
  received_so entry l kind (receiver.Open n progress) _ _ s (some_data rcb srcb []) so =
      closed_so (is_whole (partial_records n s)) rcb srcb n s refl so
  received_so entry l kind (receiver.Open n progress) _ _ s (some_data rcb srcb (b ∷ bytes)) so =
      let r : Stored = record { srcb = srcb; bytes = b ∷ bytes } in
      let earlier = partial_records n s in
      let fits = was_fitting (has_room_for n r s) (earlier ++ r ∷ []) (verdict_of entry l kind earlier r) in
      stored_so (judged_coming entry l kind earlier (Fitting r (has_room_for n r s))) rcb kind n r (earlier ++ r ∷ []) s
      fits so
  received_so entry l kind (receiver.Open n progress) _ i s (an_abort rcb srcb) so = gone i n s so
  received_so entry l kind (receiver.Open n progress) _ i s (too_long rcb srcb) so = gone i n s so
  received_so entry l kind r _ _ s (a_request rcb srcb) so = requested_so rcb srcb kind s so
  received_so entry l kind r _ i s (some_data rcb srcb []) so = keep.still i s so
  received_so entry l kind r _ i s (some_data rcb srcb (b ∷ bytes)) so = keep.still i s so
  received_so entry l kind r _ i s (an_abort rcb srcb) so = keep.still i s so
  received_so entry l kind r _ i s (too_long rcb srcb) so = keep.still i s so

-- ---- every record

-- And so where whole files change their states, leave, or go to another node.
pub record StaysInFiles (I : CustomerSpool → Type 0) (J : Item → CustomerSpool → Type 0) : Type 0 where
  pub arrivals : StaysInArrivals I J
  pub restated : (s t : CustomerSpool) → IsRestated s t → I s → I t
  pub left : (p : WholeFile → Bool) (s : CustomerSpool) → I s → I (record s { whole = filter p s.whole })
  pub rerouted : (p : WholeFile → Bool) (node : List ℕ) (s : CustomerSpool) → is_name node ≡ true → I s
      → I (record s { whole = map (changed_file p (with_new_destination node)) s.whole })

module _ (I : CustomerSpool → Type 0) (J : Item → CustomerSpool → Type 0) (keep : StaysInFiles I J) where
  command_so : (entry : CustomerEntry) (who : User) (message : List ℕ) (s : CustomerSpool) (done : CommandOutcome)
      → FilesMove entry who message s.whole done → I s → I (spool_after done s)
  command_so entry who message s done move so = at_move move
    where
      states : map ready done.files ≡ map ready s.whole → I (spool_after done s)
      states same =
          keep.restated s (spool_after done s) (record { whole = same; partial = refl; limits = refl; arrived = refl })
          so

      files : (fs : List WholeFile) → done.files ≡ fs → I (record s { whole = fs }) → I (spool_after done s)
      files fs e = subst (λ whole. I (record s { whole = whole })) (sym e)

      at_move : FilesMove entry who message s.whole done → I (spool_after done s)
      at_move (stay is none_gone) = states (ap (map ready) is)
      at_move (held name says is none_gone) = states (ap (map ready) is
          ∙ changed_where ready (may_change (is_of_name who name)) (file_in_state Held) s.whole (λ f. refl))
      at_move (released name says is none_gone) = states (ap (map ready) is
          ∙ changed_where ready (may_change (is_of_name who name)) (file_in_state Ready) s.whole (λ f. refl))
      at_move (rerouted name node line says route is none_gone) =
          files (map (changed_file (is_of_name who name) (with_new_destination node)) s.whole) is
          (keep.rerouted (is_of_name who name) node s (nodes_are_names message name node says) so)
      at_move (cancelled name says is gone) = files (filter (λ f. not (is_of_name who name f)) s.whole) is
          (keep.left (λ f. not (is_of_name who name f)) s so)

  pub order_so : (order : GivenOrder) (c : Customer) → I c.spool → I (customer_after_order order c).spool
  order_so (orders.Command owner text) c so =
      let done = message_outcome c.entry owner text c.spool in
      command_so c.entry owner text c.spool done (files_move c.entry owner text c.spool) so
  order_so (orders.Message whom text) c so = so

  pub record_so : (l : ℕ) (i : Item) (c : Customer) → I c.spool → J i (after_record l i c).spool
  record_so l i c so = at i (after_record l i c) (record_does l c i)
    where
      x : ℕ → Sender
      x k = sender_at k (line_at l c.lines)

      at : (i : Item) (d : Customer) → RecordDoes l c i d → J i d.spool
      at _ _ (does.nothing i) = keep.arrivals.still i c.spool so
      at _ _ (does.arrives i code k a brings named) =
          received_so I J keep.arrivals c.entry l (kind_of k) (receiver_at k (line_at l c.lines)) a i c.spool brings so
      at _ _ (does.answers i a) = keep.arrivals.still i c.spool so
      at _ _ (does.permits srcb k named) = keep.arrivals.still (Control 0xa0 srcb) c.spool so
      at _ _ (does.refuses srcb k named) = keep.arrivals.still (Control 0xb0 srcb) (after_refusal (x k) c.spool).spool
          (keep.restated c.spool (after_refusal (x k) c.spool).spool (refused_restated (x k) c.spool) so)
      at _ _ (does.completes srcb k named) =
          keep.arrivals.still (Control 0xc0 srcb) (after_completion (x k) c.spool).spool
          (completed_so I c.spool (λ n. keep.left (λ f. not (f.number == n)) c.spool so) so (x k))
      at _ _ (does.commands srcb bytes n reads here user) =
          let done = message_outcome c.entry (sender_of n) n.message c.spool in
          keep.arrivals.still (Data 0x9a srcb bytes) (spool_after done c.spool)
          (command_so c.entry (sender_of n) n.message c.spool done
          (files_move c.entry (sender_of n) n.message c.spool) so)
      at _ _ (does.knows_no_node i n) = keep.arrivals.still i c.spool so
      at _ _ (does.passes_on i k m) = keep.arrivals.still i c.spool so

-- ---- what goes out, the end of a session, and new routes

module _ (I : CustomerSpool → Type 0) (restated : (s t : CustomerSpool) → IsRestated s t → I s → I t) where
  pub replied_so : (l : ℕ) (r : LineReply) (c : Customer) → I c.spool → I (replied_to l r c).after.spool
  replied_so l (reply.Next or_ack0) c so =
      let x = line_at l c.lines in
      let first = filling (own_block (own_fcs c.spool) x.state) (outlet_of x) c.spool in
      restated c.spool (replied_to l (reply.Next or_ack0) c).after.spool
      (filled_kept c.entry l first).files so
  replied_so l r c so = so

  pub session_over_so : ((n : ℕ) (s : CustomerSpool) → I s → I (without_partial n s)) → (l : ℕ) (c : Customer)
      → I c.spool → I (session_over l c).spool
  session_over_so without l c so =
      let x = line_at l c.lines in
      let t = tried_again c.entry l (all_ended x.senders c.spool) in
      open_so I without x.receivers t (restated c.spool t (ended_restated c.entry l x.senders c.spool) so)

  pub routes_so : (routes : List RouteEntry) (c : Customer) → I c.spool → I (customer_with_routes routes c).spool
  routes_so routes c so =
      restated c.spool (customer_with_routes routes c).spool (held_restated (entry_with routes c.entry) c.spool) so

-- all steps of a session
pub files_in_steps : (I : CustomerSpool → Type 0) → StaysInFiles I (λ i. I) → StaysInSteps (λ c. I c.spool)
files_in_steps I keep = record {
  session = record {
    judged = λ l came c there so. so;
    answered = λ l r c there so. replied_so I keep.restated l r c so;
    ended = λ end l c there so. so;
    over = λ l c there so. session_over_so I keep.restated keep.arrivals.without l c so;
  };
  acted = λ l i c there so. record_so I (λ j. I) keep l i c so;
}
