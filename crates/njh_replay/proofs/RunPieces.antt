-- How far a run in pieces has come: up to behind its last order, and to the event that it looks at.
use Rattle.std.proofs.Common.{◌≡◌, ◌⊎◌, inl, inr, ℕ, suc, ◌+◌, ◌<◌, ◌≤◌, ◌-◌, true, ◌||◌, Bool, List, [], ◌∷◌, ◌++◌}
use Rattle.std.proofs.Common.{length, None}
use Rattle.std.proofs.Common.{take, drop, get_or, Option, refl, sym, ap, subst, ◌∙◌, arith, append-nil, append_assoc}
use Rattle.std.proofs.Common.{take-append-drop, take_all, length-drop, false, Result, Ok, Err}
use Rattle.std.specs.Prelude.{All, IsErrAnd, slice_range}
use Rattle.std.specs.List.{list_any}
use Rattle.std.specs.Io.KnownBytes.{Appends}
use Rattle.std.proofs.KnownBytes.{Appends-nil}
use Rattle.std.proofs.Math.Seq.{take-add}
use Rattle.std.proofs.lemmas.List.{drop_more, get_or-drop, take_more}
use Rattle.std.proofs.lemmas.List.Elements.{All-drop, All-more, All-take}
use Rattle.std.proofs.lemmas.List.Folds.{drop_split, list_any-append}
use Rattle.njh_table.specs.NewRoutes.{new_routes_of}
use Rattle.njh_hub.specs.declared.event.Event.{Event}
use Rattle.njh_hub.specs.declared.event.Event.TheVariants.{Bytes, Tick, Garbled, Lost, Routes, Order}
use Rattle.njh_hub.specs.WholeHub.{AreTaken, HubRun, Part, part, refusal_of, IsNamed, IsTaken, SameLines, hub_event}
use Rattle.njh_hub.specs.WholeHub.{hub_run}
use Rattle.njh_hub.proofs.NamedLaws.{LedOn, are_taken_more, led_on}
use Rattle.njh_hub.proofs.RunningLaws.{hub_run-append}
use Rattle.njh_customer.specs.Orders.{replies_to}
use Rattle.njh_customer.specs.declared.given_order.GivenOrder.{GivenOrder}
use Rattle.njh_io.specs.Written.{AppendsBeginning}
use Rattle.njh_replay.specs.declared.fault.ReplayFault.{ReplayFault}
use Rattle.njh_replay.specs.Printed.{frames_text, replies_text, run_text}
use Rattle.njh_replay.specs.Replayed.{is_order, IfHubs, IsRunShort, MayStop, Prints}
use Rattle.njh_replay.specs.code.RunPieces.{IsFramesShort, IsNoOrder, IsOrderShort}
use Rattle.njh_replay.proofs.PrintSteps.{prints_stopped, short_then}
use Rattle.njh_replay.proofs.RunTexts.{frames_short, order_short, piece_begun, piece_printed, run_text-frames}
use Rattle.njh_replay.proofs.RunTexts.{run_text-order}

-- ---- events in pieces

-- those up to a place, those behind it up to another, the one there, and those behind that
pub cut_at : (events : List Event) (from index : ℕ) (event : Event) → from ≤ index → index < length events
    → event ≡ get_or events index event
    → events ≡ take from events ++ (slice_range events from index ++ event ∷ drop (index + 1) events)
cut_at events from index event before within is =
    sym (take-append-drop from events)
    ∙ ap (λ (es : List Event). take from events ++ es)
    (drop_split events from index before
    ∙ ap (λ (es : List Event). slice_range events from index ++ es)
    (drop_more events index event within ∙ ap (λ (e : Event). e ∷ drop (index + 1) events) (sym is)))

-- and all of them, by an order that is there
pub cut_order : (events : List Event) (from index : ℕ) (event : Event) → from ≤ index → index < length events
    → event ≡ get_or events index event
    → events ≡ (take from events ++ slice_range events from index) ++ event ∷ drop (index + 1) events
cut_order events from index event before within is =
    cut_at events from index event before within is
    ∙ sym (append_assoc (take from events) (slice_range events from index) (event ∷ drop (index + 1) events))

cut_end : (events : List Event) (from : ℕ)
    → events ≡ take from events ++ (slice_range events from (length events) ++ [])
cut_end events from =
    let rest : slice_range events from (length events) ≡ drop from events =
    take_all (length events - from) (drop from events) (omega (arith, length-drop from events)) in
    sym (take-append-drop from events)
    ∙ ap (λ (es : List Event). take from events ++ es)
    (sym (append-nil (slice_range events from (length events)) ∙ rest))

pub taken_at : (events : List Event) (from index : ℕ) (event : Event) → from ≤ index → index < length events
    → event ≡ get_or events index event
    → take (index + 1) events ≡ (take from events ++ slice_range events from index) ++ event ∷ []
taken_at events from index event before within is =
    let sum : index ≡ from + (index - from) = omega (arith, before) in
    take_more events index event within
    ∙ ap (λ (e : Event). take index events ++ e ∷ []) (sym is)
    ∙ ap (λ (es : List Event). es ++ event ∷ [])
    (ap (λ (n : ℕ). take n events) sum ∙ take-add from (index - from) events)

-- an order that is there
pub order_there : (events : List Event) (index : ℕ) (event : Event) (c : ℕ) (order : GivenOrder)
    → event ≡ get_or events index event → event ≡ Order c order
    → Order c order ≡ get_or events index (Order c order)
order_there events index event c order is same = subst (λ (e : Event). e ≡ get_or events index e) same is

pub order_named : (start : List Part) (events : List Event) (index c : ℕ) (order : GivenOrder)
    → All (IsNamed start) events → index < length events → Order c order ≡ get_or events index (Order c order)
    → c < length start
order_named start events index c order named within is =
    subst (IsNamed start) (sym is) (named index (Order c order) within)

-- an event that is none
pub plain_event : (event : Event) → ((c : ℕ) (order : GivenOrder) → event ≡ Order c order → ⊥) → IsNoOrder event
plain_event (Bytes id piece) other = refl
plain_event (Tick id) other = refl
plain_event (Garbled id) other = refl
plain_event (Lost id) other = refl
plain_event (Routes c routes) other = refl
plain_event (Order c order) other = absurd (other c order refl)

-- an order is among them
or_right : (x : Bool) → (x || true) ≡ true
or_right true = refl
or_right false = refl

has_order : (front : List Event) (c : ℕ) (order : GivenOrder)
    → list_any is_order (front ++ Order c order ∷ []) ≡ true
has_order front c order = list_any-append is_order front (Order c order ∷ []) ∙ or_right (list_any is_order front)

-- ---- what they name

named_later : (start now : List Part) → LedOn start now → (event : Event) → IsNamed start event → IsNamed now event
named_later start now on (Bytes id piece) known = omega (arith, known, on.lines id.customer)
named_later start now on (Tick id) known = omega (arith, known, on.lines id.customer)
named_later start now on (Garbled id) known = omega (arith, known, on.lines id.customer)
named_later start now on (Lost id) known = omega (arith, known, on.lines id.customer)
named_later start now on (Routes c routes) known =
    (omega (arith, known.0, on.many), on.checked c known.0 (new_routes_of c routes) ∙ known.1)
named_later start now on (Order c order) known = omega (arith, known, on.many)

-- ---- orders that aren't refused

plain_is_taken : (parts : List Part) (event : Event) → IsNoOrder event → IsTaken parts event
plain_is_taken parts (Bytes id piece) plain = tt
plain_is_taken parts (Tick id) plain = tt
plain_is_taken parts (Garbled id) plain = tt
plain_is_taken parts (Lost id) plain = tt
plain_is_taken parts (Routes c routes) plain = tt
plain_is_taken parts (Order c order) plain = absurd (cc plain)

-- events none of which is an order need none
plain_taken : (parts : List Part) (events : List Event) → All IsNoOrder events → AreTaken parts events
plain_taken parts [] all = tt
plain_taken parts (event ∷ events) all = (
  plain_is_taken parts event (all 0 event (omega arith)),
  plain_taken (hub_event parts event).parts events (λ k d within. all (suc k) d (omega (arith, within))),
)

taken_append : (parts : List Part) (xs ys : List Event) → AreTaken parts xs → AreTaken (hub_run parts xs).parts ys
    → AreTaken parts (xs ++ ys)
taken_append parts [] ys front back = back
taken_append parts (x ∷ xs) ys front back =
    (front.0, taken_append (hub_event parts x).parts xs ys front.1 back)

-- ---- how far a run has come

-- none from a place to itself
no_events : (events : List Event) (from : ℕ) → All IsNoOrder (slice_range events from from)
no_events events from = λ k d within.
    let none : from - from ≡ 0 = omega arith in
    absurd (omega (arith, within, ap (λ (n : ℕ). length (take n (drop from events))) none))

-- one more that is none
one_more : (events : List Event) (from index : ℕ) (event : Event) → from ≤ index → index < length events
    → event ≡ get_or events index event → IsNoOrder event → All IsNoOrder (slice_range events from index)
    → All IsNoOrder (slice_range events from (index + 1))
one_more events from index event before within is none all =
    let sum : from + (index - from) ≡ index = omega (arith, before) in
    let count : (index - from) + 1 ≡ (index + 1) - from = omega (arith, before) in
    let there : get_or (drop from events) (index - from) event ≡ event =
    get_or-drop from events (index - from) event ∙ ap (λ (n : ℕ). get_or events n event) sum ∙ sym is in
    subst (λ (n : ℕ). All IsNoOrder (take n (drop from events))) count
    (All-more IsNoOrder (drop from events) (index - from) event
    (omega (arith, length-drop from events, before, within)) all (subst IsNoOrder (sym there) none))

-- What comes of the events up to a place was printed, and led the hub to what it is; each order among them had a way;
-- there is an order right before that place, if it isn't the first; and behind it up to another place there is none.
pub record IsRunSoFar (names : List (List (List ℕ))) (customers : List (List ℕ)) (start now : List Part)
    (events : List Event) (from index : ℕ) (a b : Option (List ℕ)) : Type 0 where
  pub within : from ≤ index
  pub led : now ≡ (hub_run start (take from events)).parts
  pub lines : SameLines start now
  pub printed : Appends a b (run_text names customers start (take from events))
  pub orders : AreTaken start (take from events)
  pub first : (take from events ≡ []) ⊎ (list_any is_order (take from events) ≡ true)
  pub plain : All IsNoOrder (slice_range events from index)

-- nothing has come
pub started : (names : List (List (List ℕ))) (customers : List (List ℕ)) (start : List Part) (events : List Event)
    (a : Option (List ℕ)) → IsRunSoFar names customers start start events 0 0 a a
started names customers start events a = record {
  within = omega arith;
  led = refl;
  lines = λ c. refl;
  printed = Appends-nil a;
  orders = tt;
  first = inl refl;
  plain = no_events events 0;
}

-- one event more that is no order
pub goes_on : (names : List (List (List ℕ))) (customers : List (List ℕ)) (start now : List Part) (events : List Event)
    (from index : ℕ) (a b : Option (List ℕ)) (event : Event)
    → IsRunSoFar names customers start now events from index a b
    → index < length events → event ≡ get_or events index event → IsNoOrder event
    → IsRunSoFar names customers start now events from (index + 1) a b
goes_on names customers start now events from index a b event so_far inside is none = record {
  within = omega (arith, so_far.within);
  led = so_far.led;
  lines = so_far.lines;
  printed = so_far.printed;
  orders = so_far.orders;
  first = so_far.first;
  plain = one_more events from index event so_far.within inside is none so_far.plain;
}

module _ (names : List (List (List ℕ))) (customers : List (List ℕ)) (start now : List Part) (events : List Event)
    (from index : ℕ) (a b : Option (List ℕ)) (so_far : IsRunSoFar names customers start now events from index a b)
    (named : All (IsNamed start) events) where
  led_so_far : LedOn start now
  led_so_far = led_on start now (take from events) so_far.led so_far.lines

  rest_named : All (IsNamed now) (drop from events)
  rest_named = λ k d within. named_later start now led_so_far (get_or (drop from events) k d)
      (All-drop (IsNamed start) from events named k d within)

  pub piece_named : (to : ℕ) → All (IsNamed now) (slice_range events from to)
  piece_named to = All-take (IsNamed now) (to - from) (drop from events) rest_named

  pub has_customers : length now ≡ length start
  has_customers = led_so_far.many

-- what is so of a run is so of it by names that are the same
frames_by : {A : Type 0} (names own : List (List (List ℕ))) (now : List Part) (piece : List Event)
    (r : Result A ReplayFault) (b c : Option (List ℕ)) → own ≡ names
    → Prints r b c (frames_text own (hub_run now piece).sent) (IsFramesShort own now piece)
    → Prints r b c (frames_text names (hub_run now piece).sent) (IsFramesShort names now piece)
frames_by names own now piece r b c same so = subst
    (λ ns. Prints r b c (frames_text ns (hub_run now piece).sent) (IsFramesShort ns now piece)) same so

-- A piece without orders comes behind what has come so far.
module _ (names : List (List (List ℕ))) (customers : List (List ℕ)) (start now : List Part) (events : List Event)
    (from index : ℕ) (a b : Option (List ℕ)) (so_far : IsRunSoFar names customers start now events from index a b)
    (own : List (List (List ℕ))) (same : own ≡ names) (piece more : List Event)
    (are : events ≡ take from events ++ (piece ++ more)) (plain : All IsNoOrder piece) (c : Option (List ℕ)) where
  -- it was printed
  pub frames_printed : Appends b c (frames_text own (hub_run now piece).sent)
      → Appends a c (run_text names customers start (take from events ++ piece))
  frames_printed printed =
      piece_printed names customers start now (take from events) piece more events are so_far.led
      (frames_text names (hub_run now piece).sent) (run_text-frames names customers now piece plain) a b c
      so_far.printed (subst (λ ns. Appends b c (frames_text ns (hub_run now piece).sent)) same printed)

  -- it was stopped
  frames_begun : AppendsBeginning b c (frames_text names (hub_run now piece).sent)
      → AppendsBeginning a c (run_text names customers start events)
  frames_begun begun =
      piece_begun names customers start now (take from events) piece more events are so_far.led
      (frames_text names (hub_run now piece).sent) (run_text-frames names customers now piece plain) a b c
      so_far.printed begun

  frames_short_of : (fault : ReplayFault) → IfHubs fault (λ why. IsFramesShort names now piece why b c)
      → IfHubs fault (λ why. IsRunShort names customers start events why a c)
  frames_short_of fault so = short_then fault (λ why. IsFramesShort names now piece why b c)
      (λ why. IsRunShort names customers start events why a c)
      (frames_short names customers start now (take from events) piece more events are so_far.led a b c so_far.printed
      plain so_far.first) so

  pub frames_stopped : {A : Type 0} (r : Result A ReplayFault) (fault : ReplayFault) → IsErrAnd r (λ e. e ≡ fault)
      → AppendsBeginning b c (frames_text own (hub_run now piece).sent) × MayStop fault
      × IfHubs fault (λ why. IsFramesShort own now piece why b c)
      → Prints r a c (run_text names customers start events) (IsRunShort names customers start events)
  frames_stopped r fault is so =
      let said = frames_by {A = Unit {0}} names own now piece (Err fault) b c same so in
      prints_stopped r fault a c _ _ is (frames_begun said.0) said.1 (frames_short_of fault said.2)

  -- none of its orders is refused
  pub taken_behind : AreTaken start (take from events ++ piece)
  taken_behind = taken_append start (take from events) piece so_far.orders
      (plain_taken (hub_run start (take from events)).parts piece plain)

  -- what the hub is behind it
  pub led_behind : (later : List Part) → later ≡ (hub_run now piece).parts
      → later ≡ (hub_run start (take from events ++ piece)).parts
  led_behind later led =
      led ∙ ap (λ (ps : List Part). (hub_run ps piece).parts) so_far.led
      ∙ sym (ap (λ (h : HubRun). h.parts) (hub_run-append start (take from events) piece))

-- the last piece, without orders
module _ (names : List (List (List ℕ))) (customers : List (List ℕ)) (start now : List Part) (events : List Event)
    (from index : ℕ) (a b : Option (List ℕ)) (so_far : IsRunSoFar names customers start now events from index a b)
    (ended : index ≡ length events) (own : List (List (List ℕ))) (same : own ≡ names) (c : Option (List ℕ)) where
  pub last_plain : All IsNoOrder (slice_range events from (length events))
  last_plain = subst (λ (n : ℕ). All IsNoOrder (slice_range events from n)) ended so_far.plain

  whole : take from events ++ slice_range events from (length events) ≡ events
  whole = ap (λ (es : List Event). take from events ++ es) (sym (append-nil (slice_range events from (length events))))
      ∙ sym (cut_end events from)

  pub last_printed : {A : Type 0} (r : Result A ReplayFault)
      → Prints r b c (frames_text own (hub_run now (slice_range events from (length events))).sent)
      (IsFramesShort own now (slice_range events from (length events)))
      → Prints r a c (run_text names customers start events) (IsRunShort names customers start events)
  last_printed (Ok x) printed =
      subst (λ (es : List Event). Appends a c (run_text names customers start es)) whole
      (frames_printed names customers start now events from index a b so_far own same
      (slice_range events from (length events)) [] (cut_end events from) last_plain c printed)
  last_printed {A} (Err fault) printed =
      frames_stopped names customers start now events from index a b so_far own same
      (slice_range events from (length events)) [] (cut_end events from) last_plain c {A = A} (Err fault) fault refl
      printed

  pub last_taken : AreTaken start events
  last_taken = subst (AreTaken start) whole
      (taken_behind names customers start now events from index a b so_far own same
      (slice_range events from (length events)) [] (cut_end events from) last_plain c)

  pub last_led : (later : List Part) → later ≡ (hub_run now (slice_range events from (length events))).parts
      → later ≡ (hub_run start events).parts
  last_led later led =
      led_behind names customers start now events from index a b so_far own same
      (slice_range events from (length events)) [] (cut_end events from) last_plain c later led
      ∙ ap (λ (es : List Event). (hub_run start es).parts) whole

-- and then an order
module _ (names : List (List (List ℕ))) (customers : List (List ℕ)) (start later : List Part) (events : List Event)
    (front more : List Event) (n : ℕ) (order : GivenOrder) (are : events ≡ front ++ Order n order ∷ more)
    (led : later ≡ (hub_run start front).parts) (a c d : Option (List ℕ))
    (printed : Appends a c (run_text names customers start front)) (name : List ℕ)
    (called : name ≡ get_or customers n []) where
  replies_are : run_text names customers later (Order n order ∷ [])
      ≡ replies_text name (replies_to order (part n later).customer)
  replies_are = run_text-order names customers later n order
      ∙ ap (λ (who : List ℕ). replies_text who (replies_to order (part n later).customer)) (sym called)

  pub answers_stopped : {A : Type 0} (r : Result A ReplayFault) (fault : ReplayFault) → IsErrAnd r (λ e. e ≡ fault)
      → AppendsBeginning c d (replies_text name (replies_to order (part n later).customer)) × MayStop fault
      × IfHubs fault (λ why. IsOrderShort (part n later) order why c d)
      → Prints r a d (run_text names customers start events) (IsRunShort names customers start events)
  answers_stopped r fault is so =
      prints_stopped r fault a d _ _ is
      (piece_begun names customers start later front (Order n order ∷ []) more events are led
      (replies_text name (replies_to order (part n later).customer)) replies_are a c d printed so.0) so.1
      (short_then fault (λ why. IsOrderShort (part n later) order why c d)
      (λ why. IsRunShort names customers start events why a d)
      (order_short names customers start later front more events n order are led a c d printed) so.2)

  -- what has come so far behind it
  pub behind_order : (last : List Part) (from index : ℕ) (e : Option (List ℕ)) → from ≡ index
      → take index events ≡ front ++ Order n order ∷ [] → AreTaken start front
      → refusal_of order (part n later) ≡ None → last ≡ (hub_event later (Order n order)).parts
      → SameLines start last → e ≡ d
      → Appends c d (replies_text name (replies_to order (part n later).customer))
      → IsRunSoFar names customers start last events from index a e
  behind_order last from index e here taken before accepted moved same seen answered =
      subst (λ (k : ℕ). IsRunSoFar names customers start last events k index a e) (sym here)
      (subst (IsRunSoFar names customers start last events index index a) (sym seen) (record {
        within = omega arith;
        led =
            moved ∙ ap (λ (ps : List Part). (hub_event ps (Order n order)).parts) led
            ∙ sym (ap (λ (h : HubRun). h.parts) (hub_run-append start front (Order n order ∷ [])))
            ∙ ap (λ (es : List Event). (hub_run start es).parts) (sym taken);
        lines = same;
        printed = subst (λ (es : List Event). Appends a d (run_text names customers start es)) (sym taken)
            (piece_printed names customers start later front (Order n order ∷ []) more events are led
            (replies_text name (replies_to order (part n later).customer)) replies_are a c d printed answered);
        orders = subst (λ (es : List Event). AreTaken start es) (sym taken)
            (are_taken_more start front (Order n order) before
            (subst (λ (ps : List Part). refusal_of order (part n ps) ≡ None) led accepted));
        first = inr (ap (list_any is_order) taken ∙ has_order front n order);
        plain = no_events events index;
      }))
