-- What a record that comes does to a customer: nothing, or one of a few small things.
use Rattle.njh_customer.proofs.Words
use Words.{cond_both, ℕ, Bool, true, false, cond, List, [], Option, Some, None, Result, Ok, Err, refl, sym, subst}
use Words.{arith, eqb-true, Contains-append_right, Contains, Item, Aborted, General, stream_number, stream_of, Answer}
use Words.{Nodal, nodal_of, is_user_command, cut_after_message, NmrFault, route_of, Route, Here, Line, Unknown, Arrival}
use Words.{after_completion, after_refusal, after_message, after_permission, after_record, after_stream_arrival}
use Words.{after_stream_record, after_stream_request, after_unknown_node, after_user_command, acted_where, all_acted}
use Words.{ended_or, record_end, message_read, message_routed, peer_answered, refusal_of, with_sender_outcome}
use Words.{Customer, line_at, with_answer_on, with_waiting}
use Rattle.{std.proofs.Common.{◌≡◌, ◌==◌, ◌∷◌}, njh_block.specs.Blocks.{Data, Long, Control}}
use Rattle.njh_customer.specs.Customer.{sender_at}
use Rattle.njh_stream.specs.Receiving as receiving

-- a record brings an arrival for a stream
pub data Brings : Arrival → Item → Type 0 where
  a_request : (rcb srcb : ℕ) → Brings receiving.Request (Control rcb srcb)
  some_data : (rcb srcb : ℕ) (bytes : List ℕ) → Brings (receiving.Data srcb bytes) (Data rcb srcb bytes)
  an_abort : (rcb srcb : ℕ) → Brings receiving.Abort (Aborted rcb srcb)
  too_long : (rcb srcb : ℕ) → Brings receiving.Long (Long rcb srcb)

-- the stream that a code names on a line
abbrev pub stream_named : ℕ → ℕ → Customer → Option ℕ
stream_named l code c = stream_of (line_at l c.lines).streams code

-- What a record on a line leaves.
pub data RecordDoes (l : ℕ) (c : Customer) : Item → Customer → Type 0 where
  nothing : (i : Item) → RecordDoes l c i c
  arrives : (i : Item) (code k : ℕ) (a : Arrival) → Brings a i → stream_named l code c ≡ Some k
      → RecordDoes l c i (after_stream_arrival l k a c)
  answers : (i : Item) (a : Option Answer) → RecordDoes l c i (record c { lines = with_answer_on l a c.lines })
  permits : (srcb k : ℕ) → stream_named l srcb c ≡ Some k → RecordDoes l c (Control 0xa0 srcb) (after_permission l k c)
  refuses : (srcb k : ℕ) → stream_named l srcb c ≡ Some k → RecordDoes l c (Control 0xb0 srcb)
      (with_sender_outcome l k (after_refusal (sender_at k (line_at l c.lines)) c.spool) c)
  completes : (srcb k : ℕ) → stream_named l srcb c ≡ Some k → RecordDoes l c (Control 0xc0 srcb)
      (with_sender_outcome l k (after_completion (sender_at k (line_at l c.lines)) c.spool) c)
  commands : (srcb : ℕ) (bytes : List ℕ) (n : Nodal) → nodal_of bytes ≡ Ok n → route_of c.entry n.to ≡ Here
      → is_user_command n ≡ true → RecordDoes l c (Data 0x9a srcb bytes) (after_user_command n c)
  knows_no_node : (i : Item) (n : Nodal) → RecordDoes l c i (after_unknown_node n c)
  passes_on : (i : Item) (k : ℕ) (m : List ℕ) → RecordDoes l c i (record c { lines = with_waiting k m c.lines })

module _ (l : ℕ) (c : Customer) where
  -- ---- streams

  stream_does : (code : ℕ) (o : Option ℕ) (a : Arrival) (i : Item) → Brings a i → stream_named l code c ≡ o
      → RecordDoes l c i (after_stream_record l o a c)
  stream_does code None a i brings e = nothing i
  stream_does code (Some k) a i brings e = arrives i code k a brings e

  request_does : (rcb srcb : ℕ) (o : Option ℕ) → stream_named l srcb c ≡ o
      → RecordDoes l c (Control rcb srcb) (after_stream_request l srcb o c)
  request_does rcb srcb None e = answers (Control rcb srcb) (refusal_of srcb (stream_number srcb))
  request_does rcb srcb (Some k) e = arrives (Control rcb srcb) srcb k receiving.Request (a_request rcb srcb) e

  -- where the code is this one
  at_code : (code rcb srcb : ℕ) (b : Bool) (x y : Customer) → (rcb == code) ≡ b → RecordDoes l c (Control code srcb) x
      → RecordDoes l c (Control rcb srcb) y → RecordDoes l c (Control rcb srcb) (cond b x y)
  at_code code rcb srcb true x y e first second =
      subst (λ n. RecordDoes l c (Control n srcb) x) (sym (eqb-true rcb code e)) first
  at_code code rcb srcb false x y e first second = second

  peer_does : (rcb srcb : ℕ) (o : Option ℕ) → stream_named l srcb c ≡ o
      → RecordDoes l c (Control rcb srcb) (peer_answered l rcb o c)
  peer_does rcb srcb None e = nothing (Control rcb srcb)
  peer_does rcb srcb (Some k) e =
      let x = sender_at k (line_at l c.lines) in
      let refused = with_sender_outcome l k (after_refusal x c.spool) c in
      let completed = with_sender_outcome l k (after_completion x c.spool) c in
      let others = cond (rcb == 0xc0) completed c in
      at_code 0xa0 rcb srcb (rcb == 0xa0) (after_permission l k c) (cond (rcb == 0xb0) refused others) refl
      (permits srcb k e) (at_code 0xb0 rcb srcb (rcb == 0xb0) refused others refl (refuses srcb k e)
      (at_code 0xc0 rcb srcb (rcb == 0xc0) completed c refl (completes srcb k e) (nothing (Control rcb srcb))))

  -- ---- messages

  routed_does : (srcb : ℕ) (bytes : List ℕ) (n : Nodal) (r : Route) → nodal_of bytes ≡ Ok n → route_of c.entry n.to ≡ r
      → RecordDoes l c (Data 0x9a srcb bytes) (message_routed l n bytes r c)
  routed_does srcb bytes n Here reads to = cond_both (is_user_command n) (after_user_command n c) c
      (RecordDoes l c (Data 0x9a srcb bytes)) (commands srcb bytes n reads to) (λ _. nothing (Data 0x9a srcb bytes))
  routed_does srcb bytes n (Line k) reads to =
      let m = cut_after_message bytes in
      cond_both (k == l) c (record c { lines = with_waiting k m c.lines }) (RecordDoes l c (Data 0x9a srcb bytes))
      (λ _. nothing (Data 0x9a srcb bytes)) (λ _. passes_on (Data 0x9a srcb bytes) k m)
  routed_does srcb bytes n Unknown reads to = cond_both (is_user_command n) (after_unknown_node n c) c
      (RecordDoes l c (Data 0x9a srcb bytes)) (λ _. knows_no_node (Data 0x9a srcb bytes) n)
      (λ _. nothing (Data 0x9a srcb bytes))

  message_does : (srcb : ℕ) (bytes : List ℕ) (n : Result Nodal NmrFault) → nodal_of bytes ≡ n
      → RecordDoes l c (Data 0x9a srcb bytes) (message_read l bytes n c)
  message_does srcb bytes (Err e) reads = nothing (Data 0x9a srcb bytes)
  message_does srcb bytes (Ok n) reads = routed_does srcb bytes n (route_of c.entry n.to) reads refl

  -- ---- every record

  pub record_does : (i : Item) → RecordDoes l c i (after_record l i c)
  record_does (Data rcb srcb bytes) =
      let a = receiving.Data srcb bytes in
      cond_both (rcb == 0x9a) (after_message l bytes c) (after_stream_record l (stream_named l rcb c) a c)
      (RecordDoes l c (Data rcb srcb bytes))
      (λ e. subst (λ n. RecordDoes l c (Data n srcb bytes) (after_message l bytes c)) (sym (eqb-true rcb 0x9a e))
      (message_does srcb bytes (nodal_of bytes) refl))
      (λ e. stream_does rcb (stream_named l rcb c) a (Data rcb srcb bytes) (some_data rcb srcb bytes) refl)
  record_does (Aborted rcb srcb) =
      stream_does rcb (stream_named l rcb c) receiving.Abort (Aborted rcb srcb) (an_abort rcb srcb) refl
  record_does (Long rcb srcb) =
      stream_does rcb (stream_named l rcb c) receiving.Long (Long rcb srcb) (too_long rcb srcb) refl
  record_does (Control rcb srcb) =
      let o = stream_named l srcb c in
      cond_both (rcb == 0x90) (after_stream_request l srcb o c) (peer_answered l rcb o c)
      (RecordDoes l c (Control rcb srcb)) (λ _. request_does rcb srcb o refl) (λ _. peer_does rcb srcb o refl)
  record_does (General srcb rest) = nothing (General srcb rest)

-- ---- the records of a block

module _ (l : ℕ) (I : Customer → Type 0) where
  all_so : (items : List Item) → ((i : Item) → Contains items i → (c : Customer) → I c → I (after_record l i c))
      → (c : Customer) → I c → I (all_acted l items c).customer
  all_so [] acted c so = so
  all_so (i ∷ is) acted c so =
      let later = all_acted l is (after_record l i c) in
      let acted_later = all_so is (λ j at. acted j (Contains-append_right (i ∷ []) is j at)) (after_record l i c)
      (acted i (0, omega arith, refl) c so) in
      elim (record_end i) as (λ o. I (ended_or o c later).customer) [ Some end ↦ so | None ↦ acted_later ]

  pub acted_where_so : (b : Bool) (items : List Item) → ((i : Item) → Contains items i → (c : Customer) → I c
      → I (after_record l i c)) → (c : Customer) → I c → I (acted_where b l items c).customer
  acted_where_so true items acted c so = all_so items acted c so
  acted_where_so false items acted c so = so
