-- The text of a run, piece by piece: events none of which is an order, and then one that is.
use Rattle.std.proofs.Common.{◌≡◌, ◌⊎◌, inl, inr, ℕ, suc, Bool, true, ◌||◌, List, []}
use Rattle.std.proofs.Common.{◌∷◌, ◌++◌, length, get_or, Option, Some, refl, sym, ap, subst, ◌∙◌, arith}
use Rattle.std.proofs.Common.{append_assoc, append-nil}
use Rattle.std.specs.Prelude.{All}
use Rattle.std.specs.List.{list_any}
use Rattle.std.specs.Io.KnownBytes.{Appends}
use Rattle.std.proofs.KnownBytes.{Appends-trans}
use Rattle.std.proofs.Math.Seq.{take-append_seam}
use Rattle.std.proofs.lemmas.List.Elements.{All-take}
use Rattle.std.proofs.lemmas.List.Folds.{list_any-append}
use Rattle.njh_customer.specs.Orders.{replies_to}
use Rattle.njh_customer.specs.declared.given_order.GivenOrder.{GivenOrder}
use Rattle.njh_hub.specs.declared.event.Event.{Event}
use Rattle.njh_hub.specs.declared.event.Event.TheVariants.{Bytes, Tick, Garbled, Lost, Routes, Order}
use Rattle.njh_hub.specs.declared.fault.HubFault.{HubFault}
use Rattle.njh_hub.specs.declared.fault.HubFault.TheVariants.{UnknownLine, UnknownCustomer, Memory, NoRoute, BadRoutes}
use Rattle.njh_hub.specs.declared.fault.HubFault.TheVariants.{QueueFull}
use Rattle.njh_hub.specs.RunStops.{IsGiven}
use Rattle.njh_hub.specs.WholeHub.{Part, part, refusal_of, hub_event, hub_run}
use Rattle.njh_io.specs.Written.{AppendsBeginning}
use Rattle.njh_replay.specs.Printed.{answers_text, frames_text, replies_text, run_text}
use Rattle.njh_replay.specs.Replayed.{is_order, IsRefusedBehind, IsRunShort, IsSentUpTo, MayWantMemory}
use Rattle.njh_replay.specs.code.PrintedLaws.{text_of-append}
use Rattle.njh_replay.specs.code.RunPieces.{IsFramesShort, IsNoOrder, IsOrderShort}
use Rattle.njh_replay.proofs.PrintedParts.{beginning-after}
use Rattle.njh_replay.proofs.ReplayLaws.{all_silent, Keeps-none}

no_answers : (customers : List (List ℕ)) (parts : List Part) (event : Event) → IsNoOrder event
    → answers_text customers parts event ≡ []
no_answers customers parts (Bytes id piece) plain = refl
no_answers customers parts (Tick id) plain = refl
no_answers customers parts (Garbled id) plain = refl
no_answers customers parts (Lost id) plain = refl
no_answers customers parts (Routes c routes) plain = refl
no_answers customers parts (Order c order) plain = absurd (cc plain)

All-front : {X : Type 0} (P : X → Type 0) (xs ys : List X) → All P (xs ++ ys) → All P xs
All-front P xs ys all = rw take-append_seam at (All-take P (length xs) (xs ++ ys) all)

module _ (names : List (List (List ℕ))) (customers : List (List ℕ)) where
  -- the text of some events and then of more
  run_text-append : (parts : List Part) (xs ys : List Event)
      → run_text names customers parts (xs ++ ys)
      ≡ run_text names customers parts xs ++ run_text names customers (hub_run parts xs).parts ys
  run_text-append parts [] ys = refl
  run_text-append parts (x ∷ xs) ys =
      let e = hub_event parts x in
      let frames = frames_text names e.sent in
      let answers = answers_text customers parts x in
      let front = run_text names customers e.parts xs in
      let back = run_text names customers (hub_run e.parts xs).parts ys in
      ap (λ (text : List ℕ). frames ++ (answers ++ text)) (run_text-append e.parts xs ys)
      ∙ sym (append_assoc frames (answers ++ front) back
      ∙ ap (λ (text : List ℕ). frames ++ text) (append_assoc answers front back))

  -- without orders it is that of the frames
  pub run_text-frames : (parts : List Part) (events : List Event) → All IsNoOrder events
      → run_text names customers parts events ≡ frames_text names (hub_run parts events).sent
  run_text-frames parts [] all = refl
  run_text-frames parts (event ∷ events) all =
      let x = hub_event parts event in
      ap (λ (text : List ℕ). frames_text names x.sent ++ (text ++ run_text names customers x.parts events))
      (no_answers customers parts event (all 0 event (omega arith)))
      ∙ ap (λ (text : List ℕ). frames_text names x.sent ++ text)
      (run_text-frames x.parts events (λ k d within. all (suc k) d (omega (arith, within))))
      ∙ sym (text_of-append names x.sent (hub_run x.parts events).sent)

  -- of an order that of its replies
  pub run_text-order : (parts : List Part) (c : ℕ) (order : GivenOrder)
      → run_text names customers parts (Order c order ∷ [])
      ≡ replies_text (get_or customers c []) (replies_to order (part c parts).customer)
  run_text-order parts c order =
      append-nil (replies_text (get_or customers c []) (replies_to order (part c parts).customer))

-- A piece of a run behind other events, and more behind it.
module _ (names : List (List (List ℕ))) (customers : List (List ℕ)) (start now : List Part)
    (front piece more events : List Event) (are : events ≡ front ++ (piece ++ more))
    (led : now ≡ (hub_run start front).parts) (text : List ℕ) (is : run_text names customers now piece ≡ text)
    (a b c : Option (List ℕ)) (printed : Appends a b (run_text names customers start front)) where
  piece_behind : run_text names customers start (front ++ piece) ≡ run_text names customers start front ++ text
  piece_behind =
      run_text-append names customers start front piece
      ∙ ap (λ (s : List ℕ). run_text names customers start front ++ s)
      (ap (λ (ps : List Part). run_text names customers ps piece) (sym led) ∙ is)

  -- if it is printed, what is printed is the text up to its end
  pub piece_printed : Appends b c text → Appends a c (run_text names customers start (front ++ piece))
  piece_printed later = rw piece_behind (Appends-trans a b c (run_text names customers start front) text printed later)

  -- if a beginning of it is, that is a beginning of the whole
  pub piece_begun : AppendsBeginning b c text → AppendsBeginning a c (run_text names customers start events)
  piece_begun begun =
      let behind = run_text names customers (hub_run start (front ++ piece)).parts more in
      beginning-after a b c (run_text names customers start front) text behind (run_text names customers start events)
      printed begun
      (sym (append_assoc (run_text names customers start front) text behind)
      ∙ ap (λ (s : List ℕ). s ++ behind) (sym piece_behind)
      ∙ sym (run_text-append names customers start (front ++ piece) more)
      ∙ ap (run_text names customers start) (append_assoc front piece more ∙ sym are))

-- ---- what is written if the hub's fault stopped it

-- nothing is written where all events came on no line and none is an order
silent_text : (names : List (List (List ℕ))) (customers : List (List ℕ)) (start : List Part) (events : List Event)
    → All IsNoOrder events → All IsGiven events → run_text names customers start events ≡ []
silent_text names customers start events plain given =
    run_text-frames names customers start events plain ∙ ap (frames_text names) (all_silent start events given)

or_left : (x y : Bool) → x ≡ true → (x || y) ≡ true
or_left x y is = rw is refl

module _ (names : List (List (List ℕ))) (customers : List (List ℕ)) (start now : List Part)
    (front piece more events : List Event) (are : events ≡ front ++ (piece ++ more))
    (led : now ≡ (hub_run start front).parts) (a b c : Option (List ℕ))
    (printed : Appends a b (run_text names customers start front)) where
  -- a run without orders: nothing at all, if it is the first piece
  frames_want : All IsNoOrder piece → (front ≡ [] ⊎ list_any is_order front ≡ true)
      → IsFramesShort names now piece Memory b c → IsRunShort names customers start events Memory a c
  frames_want plain first short =
      let before = short.before in
      let front_plain : All IsNoOrder before =
      All-front IsNoOrder before (short.stop ∷ short.behind) (subst (All IsNoOrder) short.are plain) in
      let sent = piece_printed names customers start now front before (short.stop ∷ (short.behind ++ more))
      (front ++ (before ++ short.stop ∷ (short.behind ++ more))) refl led
      (frames_text names (hub_run now before).sent) (run_text-frames names customers now before front_plain) a b c
      printed short.sent in
      let whole : events ≡ (front ++ before) ++ short.stop ∷ (short.behind ++ more) =
      are ∙ ap (λ (es : List Event). front ++ (es ++ more)) short.are
      ∙ ap (λ (es : List Event). front ++ es) (append_assoc before (short.stop ∷ short.behind) more)
      ∙ sym (append_assoc front before (short.stop ∷ (short.behind ++ more))) in
      let up_to : MayWantMemory (front ++ before) short.stop
      → IsSentUpTo (run_text names customers start) events MayWantMemory a c =
      λ stops. record {
        before = front ++ before;
        stop = short.stop;
        behind = short.behind ++ more;
        are = whole;
        stops = stops;
        sent = sent;
      } in
      elim short.stops [
        | inl routes ↦ inr (up_to (inl routes))
        | inr given ↦ elim first [
          | inl none ↦
              let same : front ++ before ≡ before = ap (λ (es : List Event). es ++ before) none in
              let silent = ap (run_text names customers start) same
              ∙ silent_text names customers start before front_plain given in
              inl (Keeps-none a c (subst (Appends a c) silent sent))
          | inr some ↦ inr (up_to (inr (list_any-append is_order front before
              ∙ or_left (list_any is_order front) (list_any is_order before) some)))
        ]
      ]

  pub frames_short : All IsNoOrder piece → (front ≡ [] ⊎ list_any is_order front ≡ true)
      → (why : HubFault) → IsFramesShort names now piece why b c → IsRunShort names customers start events why a c
  frames_short plain first Memory short = frames_want plain first short
  frames_short plain first NoRoute short = absurd short
  frames_short plain first QueueFull short = absurd short
  frames_short plain first UnknownLine short = absurd short
  frames_short plain first UnknownCustomer short = absurd short
  frames_short plain first (BadRoutes cause) short = absurd short

module _ (names : List (List (List ℕ))) (customers : List (List ℕ)) (start now : List Part)
    (front more events : List Event) (n : ℕ) (order : GivenOrder) (are : events ≡ front ++ Order n order ∷ more)
    (led : now ≡ (hub_run start front).parts) (a b c : Option (List ℕ))
    (printed : Appends a b (run_text names customers start front)) where
  -- an order that is refused: what comes of the events before it
  stopped_at_order : (why : HubFault) → (refusal_of order (part n now) ≡ Some why) × (c ≡ b)
      → IsSentUpTo (run_text names customers start) events (IsRefusedBehind why start) a c
  stopped_at_order why short = record {
    before = front;
    stop = Order n order;
    behind = more;
    are = are;
    stops = subst (λ (ps : List Part). refusal_of order (part n ps) ≡ Some why) led short.0;
    sent = subst (λ (x : Option (List ℕ)). Appends a x (run_text names customers start front)) (sym short.1) printed;
  }

  pub order_short : (why : HubFault) → IsOrderShort (part n now) order why b c
      → IsRunShort names customers start events why a c
  order_short NoRoute short = stopped_at_order NoRoute short
  order_short QueueFull short = stopped_at_order QueueFull short
  order_short Memory short = absurd short
  order_short UnknownLine short = absurd short
  order_short UnknownCustomer short = absurd short
  order_short (BadRoutes cause) short = absurd short
