-- What is so of a customer stays so, whatever comes, where it does in each small step.
use Rattle.njh_customer.proofs.Words
use Words.{cond_both, Err, List, None, Ok, Option, Result, Some, [], arith, cond, length, nat_lt, ℕ, false, true}
use Words.{ltb-true, length-set, rest_step, Rest, Item, read_block, BlockFault, RouteEntry, NewRoute, entries_of_routes}
use Words.{routes_checked, Input, after_end, after_input, LineReply, acted_where, after_record, CustomerStep}
use Words.{accepted_on, after_block, after_line_input, after_received, after_records, block_input, carried_out}
use Words.{replied_to, session_over, session_over_where, signal_input, silent, text_read, verdict_on, Customer}
use Words.{in_state, line_at, on_line, or_later, Taking, acted_on, byte_step, bytes_run, take_step, block_records}
use Words.{records_of_frame, customer_with_routes, routes_given, taken_where, Part, rest_on, OwnBytes, OwnEvent}
use Words.{OwnOrder, OwnRoutes, OwnSignal, event_run, sending_of_reply, Signal, SessionEnd, GivenOrder}
use Words.{customer_after_order}
use Rattle.{std.proofs.Common.{◌<◌, ◌∷◌}, njh_bisync.specs.Frames.Received, njh_block.specs.Blocks.Block}
use Rattle.{njh_line.specs.declared.verdict.Verdict.Verdict, njh_customer.proofs.LineWalks.{acted_keeps, lines_of}}
use Rattle.njh_customer.{proofs.RecordsDo.acted_where_so, specs.Alone.{after_frame, after_signal}}
use Rattle.njh_bisync.specs.Frames as frame
use Rattle.njh_line.specs.LineTable as input

-- ---- what comes on a line

-- What is so of a step on line l and of the records that came: of what comes but a good block, of a good block, and of
-- no step at all.
pub record HoldsOfSteps (l : ℕ) (c : Customer) (P : List Item → CustomerStep → Type 0) : Type 0 where
  pub none : (items : List Item) → P items (silent c)
  pub input : (came : Input) → l < length c.lines → P [] (after_line_input l came c)
  pub block : (b : Block) → l < length c.lines → P b.items (after_block l b c)

-- a line that is there, or isn't
where_there : (l : ℕ) (c : Customer) (P : CustomerStep → Type 0) (x : CustomerStep) → P (silent c)
    → (l < length c.lines → P x) → P (cond (nat_lt l (length c.lines)) x (silent c))
where_there l c P x none step =
    cond_both (nat_lt l (length c.lines)) x (silent c) P (λ e. step (ltb-true l (length c.lines) e)) (λ _. none)

pub frame_holds : (l : ℕ) (c : Customer) (P : List Item → CustomerStep → Type 0) → HoldsOfSteps l c P → (x : Received)
    → P (records_of_frame x) (after_frame l x c)
unfolding after_frame
frame_holds l c P holds x =
    where_there l c (P (records_of_frame x)) (after_received l x c) (holds.none (records_of_frame x)) (at x)
  where
    at_block : (b : Result Block BlockFault) → l < length c.lines → P (block_records b) (text_read l b c)
    at_block (Ok b) there = holds.block b there
    at_block (Err e) there = holds.input input.Bad there

    at : (x : Received) → l < length c.lines → P (records_of_frame x) (after_received l x c)
    at frame.Enquiry there = holds.input input.Enquiry there
    at frame.Ack0 there = holds.input input.Ack0 there
    at frame.Nak there = holds.input input.Nak there
    at frame.Eot there = holds.input input.Eot there
    at (frame.Text text) there = at_block (read_block text) there
    at frame.Spoiled there = holds.input input.Spoiled there

pub signal_holds : (l : ℕ) (c : Customer) (P : CustomerStep → Type 0) → P (silent c)
    → ((came : Input) → l < length c.lines → P (after_line_input l came c)) → (x : Signal) → P (after_signal l x c)
unfolding after_signal
signal_holds l c P none by_input x =
    where_there l c P (after_line_input l (signal_input x) c) none (by_input (signal_input x))

-- ---- a walk over the steps

-- What is so of a customer stays so in each step on a line that is there, but for the records that come,
pub record StaysInSession (I : Customer → Type 0) : Type 0 where
  pub judged : (l : ℕ) (came : Input) (c : Customer) → l < length c.lines → I c → I (accepted_on l came c)
  pub answered : (l : ℕ) (r : LineReply) (c : Customer) → l < length c.lines → I c → I (replied_to l r c).after
  pub ended : (end : SessionEnd) (l : ℕ) (c : Customer) → l < length c.lines → I c → I
      (record c { lines = on_line l (in_state (after_end end)) c.lines })
  pub over : (l : ℕ) (c : Customer) → l < length c.lines → I c → I (session_over l c)

-- and by these.
pub record StaysInSteps (I : Customer → Type 0) : Type 0 where
  pub session : StaysInSession I
  pub acted : (l : ℕ) (i : Item) (c : Customer) → l < length c.lines → I c → I (after_record l i c)

module _ (I : Customer → Type 0) (keep : StaysInSession I) where
  carried_so : (l : ℕ) (v : Verdict) (c : Customer) → l < length c.lines → I c → I (carried_out l v c).after
  carried_so l v c there so =
      let d = (replied_to l v.reply c).after in
      let answered = keep.answered l v.reply c there so in
      let still : l < length d.lines =
      omega (arith, length-set c.lines l (sending_of_reply c.entry l v.reply c.spool (line_at l c.lines)).line) in
      elim (v.ended) as (λ b. I (session_over_where b l d)) [ true ↦ keep.over l d still answered | false ↦ answered ]

  accepted_there : (l : ℕ) (came : Input) (c : Customer) → l < length c.lines → l < length (accepted_on l came c).lines
  accepted_there l came c there = omega (arith, length-set c.lines l (in_state (after_input came) (line_at l c.lines)))

  pub input_so : (l : ℕ) (came : Input) (c : Customer) → l < length c.lines → I c → I (after_line_input l came c).after
  input_so l came c there so = carried_so l (verdict_on l came c) (accepted_on l came c) (accepted_there l came c there)
      (keep.judged l came c there so)

module _ (I : Customer → Type 0) (keep : StaysInSteps I) where
  -- the line is there still
  abbrev So : ℕ → Customer → Type 0
  So l d = (l < length d.lines) × I d

  acted_so : (l : ℕ) (i : Item) (c : Customer) → So l c → So l (after_record l i c)
  acted_so l i c so = (omega (arith, lines_of c (after_record l i c) (acted_keeps l i c)), keep.acted l i c so.0 so.1)

  after_so : (o : Option SessionEnd) (l : ℕ) (v : Verdict) (c : Customer) → So l c → I (after_records o l v c).after
  after_so (Some end) l v c so =
      let d : Customer = record c { lines = on_line l (in_state (after_end end)) c.lines } in
      keep.session.over l d (omega (arith, length-set c.lines l (in_state (after_end end) (line_at l c.lines))))
      (keep.session.ended end l c so.0 so.1)
  after_so None l v c so = carried_so I keep.session l v c so.0 so.1

  pub block_so : (l : ℕ) (b : Block) (c : Customer) → l < length c.lines → I c → I (after_block l b c).after
  block_so l b c there so =
      let v = verdict_on l (block_input b) c in
      let d = accepted_on l (block_input b) c in
      let a = acted_where v.acts l b.items d in
      after_so a.end l v a.customer (acted_where_so l (So l) v.acts b.items (λ i at. acted_so l i) d
      (accepted_there I keep.session l (block_input b) c there, keep.session.judged l (block_input b) c there so))

  pub frame_so : (l : ℕ) (x : Received) (c : Customer) → I c → I (after_frame l x c).after
  frame_so l x c so = frame_holds l c (λ items s. I s.after) (record {
    none = λ items. so;
    input = λ came there. input_so I keep.session l came c there so;
    block = λ b there. block_so l b c there so;
  }) x

  pub signal_so : (l : ℕ) (x : Signal) (c : Customer) → I c → I (after_signal l x c).after
  signal_so l x c so = signal_holds l c (λ s. I s.after) so (λ came there. input_so I keep.session l came c there so) x

-- ---- a walk over what comes

-- by a frame
abbrev pub ByFrame : (Customer → Type 0) → Type 0
ByFrame I = (l : ℕ) (x : Received) (c : Customer) → I c → I (after_frame l x c).after

module _ (I : Customer → Type 0) (by_frame : ByFrame I) where
  frame_came_so : (l : ℕ) (o : Option Received) (c : Customer) → I c → I (acted_on l o c).after
  frame_came_so l None c so = so
  frame_came_so l (Some x) c so = by_frame l x c so

  run_so : (rest : Rest) (c : Customer) (l : ℕ) (bytes : List ℕ) → I c → I (bytes_run rest c l bytes).after
  run_so rest c l [] so = so
  run_so rest c l (byte ∷ bytes) so =
      let x = byte_step rest c l byte in
      run_so x.rest x.after l bytes (frame_came_so l (rest_step rest byte).frame c so)

  by_sent : (rest : Rest) (d : Customer) (frame : List ℕ) (later : Taking) → I d → I later.after
      → I (or_later 1 rest (record { after = d; frame = frame }) later).after
  by_sent rest d [] later first second = second
  by_sent rest d (b ∷ frame) later first second = first

  pub take_so : (rest : Rest) (c : Customer) (l : ℕ) (piece : List ℕ) → I c → I (take_step rest c l piece).after
  take_so rest c l [] so = so
  take_so rest c l (byte ∷ bytes) so =
      let x = byte_step rest c l byte in
      let first = frame_came_so l (rest_step rest byte).frame c so in
      by_sent x.rest x.after x.frame (take_step x.rest x.after l bytes) first (take_so x.rest x.after l bytes first)

-- What is so of a customer stays so by a frame, by a signal, by new routes and by an order.
pub record StaysInFrames (I : Customer → Type 0) : Type 0 where
  pub by_frame : ByFrame I
  pub by_signal : (l : ℕ) (x : Signal) (c : Customer) → I c → I (after_signal l x c).after
  pub by_routes : (routes : List RouteEntry) (c : Customer) → I c → I (customer_with_routes routes c)
  pub by_order : (order : GivenOrder) (c : Customer) → I c → I (customer_after_order order c)

module _ (I : Customer → Type 0) (keep : StaysInFrames I) where
  routes_so : (routes : List NewRoute) (p : Part) → I p.customer → I (routes_given routes p).customer
  routes_so routes p so =
      elim (routes_checked p.customer.entry routes) as (λ w. I (taken_where w routes p).customer) [
        | Ok faultless ↦ keep.by_routes (entries_of_routes routes) p.customer so
        | Err fault ↦ so
      ]

  pub event_so : (p : Part) (event : OwnEvent) → I p.customer → I (event_run p event).after.customer
  event_so p (OwnBytes l piece) so = run_so I keep.by_frame (rest_on l p) p.customer l piece so
  event_so p (OwnSignal signal l) so = keep.by_signal l signal p.customer so
  event_so p (OwnRoutes routes) so = routes_so routes p so
  event_so p (OwnOrder order) so = keep.by_order order p.customer so
