-- A run in the middle: what has happened, and what the sink took of it.
use Rattle.std.proofs.Common.{◌≡◌, ℕ, zero, suc, ◌+◌, ◌<◌, ◌≤◌, List, [], ◌∷◌, ◌++◌, length, take, drop, set, get_or}
use Rattle.std.proofs.Common.{Option, Some, Ok, refl, ap, sym, ◌∙◌, ⊎_elim, arith, append_assoc, append-nil, inl, inr}
use Rattle.std.proofs.Common.{◌⊎◌}
use Rattle.std.proofs.lemmas.List.{get_or_past, length-append, take_all, take_more}
use Rattle.std.proofs.lemmas.Option.{slice_get-get_or}
use Rattle.std.proofs.lemmas.Bool.{cases_lt}
use Rattle.std.proofs.Math.Seq.{take-add}
use Rattle.njh_table.specs.declared.LineId.{LineId}
use Rattle.njh_table.specs.Keys.{Walked}
use Rattle.njh_table.specs.NewRoutes.{new_routes_of, routes_checked, entries_of_routes}
use Rattle.njh_table.specs.declared.new_routes.GivenRoute.{GivenRoute}
use Rattle.njh_hub.specs.declared.event.Event.{Event}
use Rattle.njh_hub.specs.declared.event.Event.TheVariants.{Bytes, Tick, Garbled, Lost, Routes}
use Rattle.njh_customer.specs.Feeding.{sent_on}
use Rattle.njh_customer.specs.declared.signal.Signal.{Signal}
use Rattle.njh_customer.specs.declared.signal.Signal.TheVariants as signal
use Rattle.njh_customer.specs.NewRoutes.{part_after_routes, taken_where}
use Rattle.njh_customer.specs.Part.{part_after_bytes, part_after_signal}
use Rattle.njh_hub.specs.OwnEvents.{line_of_event, event_by, first_bytes, first_events}
use Rattle.njh_hub.specs.declared.fault.Cause.{Cause}
use Rattle.njh_hub.specs.declared.fault.Cause.TheVariants.{Hub, Sink}
use Rattle.njh_hub.specs.declared.fault.RunFault.{RunFault}
use Rattle.njh_hub.specs.RunStops.{HandedUntil, IsWithinOne}
use Rattle.njh_hub.specs.WholeHub.{Part, no_part, part, HasLine, IsNamed, sent_by, HubRun, hub_event, hub_run}
use Rattle.njh_hub.specs.Sent.{IsCounted}
use Rattle.njh_hub.proofs.PieceLaws.{after_bytes, after_bytes-none, after_bytes-step}

-- a customer with a line is there
pub known-there : (parts : List Part) (id : LineId) → HasLine parts id → id.customer < length parts
known-there parts id known =
    ⊎_elim (λ (w : id.customer < length parts). w)
    (λ (w : length parts ≤ id.customer). absurd
    (omega (arith, ap (λ (p : Part). length p.customer.lines) (get_or_past parts id.customer no_part w))))
    (cases_lt id.customer (length parts))

only_one : (h : HubRun) → record { parts = h.parts; sent = h.sent ++ [] } ≡ h
only_one h = ap (λ (s : List (LineId × List ℕ)). record h { sent = s }) (append-nil h.sent)

-- the first bytes of an event as the only one
pub part_done : (parts : List Part) (id : LineId) (piece : List ℕ) (n : ℕ) →
    hub_run parts (first_events (Bytes id piece ∷ []) 0 n) ≡ after_bytes parts id (take n piece)
part_done parts id piece zero = sym (after_bytes-none parts id)
part_done parts id piece (suc n) = only_one (after_bytes parts id (take (suc n) piece))

pub whole_done : (parts : List Part) (event : Event) → hub_run parts (event ∷ []) ≡ hub_event parts event
whole_done parts event = only_one (hub_event parts event)

-- A step by bytes of a piece, so many of which were taken before.
pub record GoesOn (start now after : List Part) (id : LineId) (piece left : List ℕ) (before used : ℕ)
    (frame : List ℕ) : Type 0 where
  pub known : HasLine start id
  pub now_is : now ≡ (after_bytes start id (take before piece)).parts
  pub left_is : left ≡ drop before piece
  pub rests : id.number < length (part id.customer now).rests
  pub used_is : used ≡ (part_after_bytes (part id.customer now) id.number left).taken
  pub after_is : after ≡ set now id.customer (part_after_bytes (part id.customer now) id.number left).after
  pub frame_is : frame ≡ (part_after_bytes (part id.customer now) id.number left).frame

abbrev step_from : List Part → LineId → List (LineId × List ℕ) → List ℕ → HubRun
step_from now id sent left =
    let t = part_after_bytes (part id.customer now) id.number left in
    record { parts = set now id.customer t.after; sent = sent ++ sent_by id.customer (sent_on id.number t.frame) }

-- such a step leads to where the bytes lead, and sends what they send
pub step_done : {start now after : List Part} {id : LineId} {piece left : List ℕ} {before used : ℕ} {frame : List ℕ} →
    GoesOn start now after id piece left before used frame →
    after_bytes start id (take (before + used) piece)
    ≡ record {
      parts = after;
      sent = (after_bytes start id (take before piece)).sent ++ sent_by id.customer
          (sent_on id.number frame);
    }
step_done {start} {now} {after} {id} {piece} {left} {before} {used} {frame} h =
    let there = known-there start id h.known in
    let front = take before piece in
    let old = after_bytes start id front in
    let t = part_after_bytes (part id.customer now) id.number left in
    let rests : id.number < length (part id.customer old.parts).rests =
    omega (arith, h.rests, ap (λ (ps : List Part). length (part id.customer ps).rests) h.now_is) in
    let o = part_after_bytes (part id.customer old.parts) id.number left in
    let same : t ≡ o = ap (λ (ps : List Part). part_after_bytes (part id.customer ps) id.number left) h.now_is in
    let cut : take (before + used) piece ≡ front ++ take o.taken left =
    take-add before used piece ∙ ap (λ (n : ℕ). front ++ take n (drop before piece))
    (h.used_is ∙ ap (λ x. x.taken) same)
    ∙ ap (λ (bs : List ℕ). front ++ take o.taken bs) (sym h.left_is) in
    ap (after_bytes start id) cut ∙ after_bytes-step start id front left there rests
    ∙ ap (λ (ps : List Part). step_from ps id old.sent left) (sym h.now_is)
    ∙ ap (λ (ps : List Part). record { parts = ps; sent = old.sent ++ sent_by id.customer (sent_on id.number t.frame) })
    (sym h.after_is)
    ∙ ap (λ (b : List ℕ). record { parts = after; sent = old.sent ++ sent_by id.customer (sent_on id.number b) })
    (sym h.frame_is)

-- the same, where a sink refused the frame: the event is done with its last step
pub sink_done : (parts : List Part) (id : LineId) (piece : List ℕ) (taken events bytes : ℕ) →
    (length piece ≤ taken → (events ≡ 1) × (bytes ≡ 0)) → (taken < length piece → (events ≡ 0) × (bytes ≡ taken)) →
    hub_run parts (first_events (Bytes id piece ∷ []) events bytes) ≡ after_bytes parts id (take taken piece)
sink_done parts id piece taken events bytes whole part =
    ⊎_elim (λ (w : taken < length piece).
    let e = part w in
    ap (λ (n : ℕ). hub_run parts (first_events (Bytes id piece ∷ []) n bytes)) e.0
    ∙ ap (λ (n : ℕ). hub_run parts (first_events (Bytes id piece ∷ []) 0 n)) e.1
    ∙ part_done parts id piece taken)
    (λ (w : length piece ≤ taken).
    let e = whole w in
    ap (λ (n : ℕ). hub_run parts (first_events (Bytes id piece ∷ []) n bytes)) e.0
    ∙ ap (λ (n : ℕ). hub_run parts (first_events (Bytes id piece ∷ []) 1 n)) e.1
    ∙ whole_done parts (Bytes id piece) ∙ ap (after_bytes parts id) (sym (take_all taken piece w)))
    (cases_lt taken (length piece))

-- a frame that was sent, with its line
pub sent_pair : (id : LineId) (frame : List ℕ) → 0 < length frame
    → sent_by id.customer (sent_on id.number frame) ≡ (id, frame) ∷ []
sent_pair id [] some = absurd (omega arith)
sent_pair id (b ∷ frame) some = refl

pub counted_from : (before now after : ℕ) → before ≤ now → IsCounted now after → IsCounted before after
counted_from before now after h c = ⊎_elim (λ (w : now < after). inl (omega arith))
    (λ (w : after ≡ 18446744073709551615). inr w) c

pub hub_run-append : (parts : List Part) (a b : List Event) →
    hub_run parts (a ++ b) ≡ record {
      parts = (hub_run (hub_run parts a).parts b).parts;
      sent = (hub_run parts a).sent ++ (hub_run (hub_run parts a).parts b).sent;
    }
hub_run-append parts [] b = refl
hub_run-append parts (event ∷ a) b =
    let x = hub_event parts event in
    let r = hub_run x.parts a in
    ap (λ (h : HubRun). record { parts = h.parts; sent = x.sent ++ h.sent }) (hub_run-append x.parts a b)
    ∙ ap (λ (s : List (LineId × List ℕ)). record { parts = (hub_run r.parts b).parts; sent = s })
    (sym (append_assoc x.sent r.sent (hub_run r.parts b).sent))

-- the events that happened where a run stopped within the next one
pub first_of-later : (events : List Event) (i n bytes : ℕ) (event : Event) → i < length events
    → event ≡ get_or events i event →
    ((n ≡ 0) ⊎ ((n ≡ 1) × (bytes ≡ 0))) → first_events events (i + n) bytes ≡ take i events ++ first_events (event ∷ [])
    n bytes
first_of-later events i n bytes event within found stop =
    ⊎_elim (λ (w : n ≡ 0).
    let e : i + n ≡ i = omega arith in
    ap (λ (k : ℕ). first_events events k bytes) e
    ∙ ap (λ (o : Option Event). take i events ++ first_bytes o bytes)
    (slice_get-get_or events i event within ∙ ap Some (sym found))
    ∙ ap (λ (k : ℕ). take i events ++ first_events (event ∷ []) k bytes) (sym w))
    (λ (w : (n ≡ 1) × (bytes ≡ 0)).
    let e : i + n ≡ i + 1 = omega arith in
    ap (λ (k : ℕ). first_events events k bytes) e ∙ ap (first_events events (i + 1)) w.1
    ∙ append-nil (take (i + 1) events)
    ∙ take_more events i event within ∙ ap (λ (x : Event). take i events ++ x ∷ []) (sym found)
    ∙ ap (λ (k : ℕ). take i events ++ first_events (event ∷ []) k 0) (sym w.0)
    ∙ ap (λ (k : ℕ). take i events ++ first_events (event ∷ []) n k) (sym w.1))
    stop

-- What a sink took before, and then up to a stop.
pub HandedUntil-after : {S : Type 0} (took : S → S → List (LineId × List ℕ) → Type 0)
    (refused : S → S → LineId × List ℕ → Type 0)
    (cause : Cause) (a b c : S) (xs ys : List (LineId × List ℕ)) →
    ((a b c : S) (xs ys : List (LineId × List ℕ)) → took a b xs → took b c ys → took a c (xs ++ ys)) →
    took a b xs → HandedUntil took refused cause b c ys → HandedUntil took refused cause a c (xs ++ ys)
HandedUntil-after took refused (Hub fault) a b c xs ys more before here = more a b c xs ys before here
HandedUntil-after took refused Sink a b c xs ys more before here = record {
  front = xs ++ here.front;
  last = here.last;
  between = here.between;
  are = ap (λ (s : List (LineId × List ℕ)). xs ++ s) here.are ∙ sym (append_assoc xs here.front (here.last ∷ []));
  took_front = more a b here.between xs here.front before here.took_front;
  refused_last = here.refused_last;
}

-- a sink that refused has refused a frame
pub HandedUntil-some : {S : Type 0} (took : S → S → List (LineId × List ℕ) → Type 0)
    (refused : S → S → LineId × List ℕ → Type 0)
    (cause : Cause) (a c : S) (sent : List (LineId × List ℕ)) →
    cause ≡ Sink → HandedUntil took refused cause a c sent → 0 < length sent
HandedUntil-some took refused (Hub fault) a c sent is here = cc
HandedUntil-some took refused Sink a c sent is here =
    omega (arith, ap (λ (s : List (LineId × List ℕ)). length s) here.are, length-append here.front (here.last ∷ []))

-- the hub after more events
abbrev pub later_than : List Part → List (LineId × List ℕ) → List Event → HubRun
later_than now sent events = record { parts = (hub_run now events).parts; sent = sent ++ (hub_run now events).sent }

-- so many events happened, and then what a stop within the next leaves of it
pub stopped_in : (start now : List Part) (events : List Event) (k n bytes : ℕ) (event : Event) → k < length events
    → event
    ≡ get_or events k event →
    ((n ≡ 0) ⊎ ((n ≡ 1) × (bytes ≡ 0))) → now ≡ (hub_run start (take k events)).parts →
    hub_run start (first_events events (k + n) bytes) ≡ later_than now (hub_run start (take k events)).sent
    (first_events (event ∷ []) n bytes)
stopped_in start now events k n bytes event within found stop here =
    ap (hub_run start) (first_of-later events k n bytes event within found stop)
    ∙ hub_run-append start (take k events) (first_events (event ∷ []) n bytes)
    ∙ ap (λ (ps : List Part). later_than ps (hub_run start (take k events)).sent (first_events (event ∷ []) n bytes))
    (sym here)

-- one event more
pub went_on : (start now : List Part) (events : List Event) (k : ℕ) (event : Event) → k < length events
    → event ≡ get_or events k event →
    now ≡ (hub_run start (take k events)).parts → hub_run start (take (k + 1) events)
    ≡ later_than now (hub_run start (take k events)).sent (event ∷ [])
went_on start now events k event within found here =
    ap (hub_run start) (take_more events k event within ∙ ap (λ (x : Event). take k events ++ x ∷ []) (sym found))
    ∙ hub_run-append start (take k events) (event ∷ [])
    ∙ ap (λ (ps : List Part). later_than ps (hub_run start (take k events)).sent (event ∷ [])) (sym here)

-- the event of a signal on a line
pub line-event_by : (s : Signal) (id : LineId) → line_of_event (event_by s id) ≡ Some id
line-event_by signal.Tick id = refl
line-event_by signal.Garbled id = refl
line-event_by signal.Lost id = refl

pub named-event_by : (parts : List Part) (s : Signal) (id : LineId) → HasLine parts id → IsNamed parts (event_by s id)
named-event_by parts signal.Tick id known = known
named-event_by parts signal.Garbled id known = known
named-event_by parts signal.Lost id known = known

-- and as the only event
pub signal_done : (parts : List Part) (s : Signal) (id : LineId) →
    (let t = part_after_signal (part id.customer parts) id.number s in
    hub_run parts (event_by s id ∷ []) ≡ record {
      parts = set parts id.customer t.after;
      sent = sent_by id.customer (sent_on id.number t.frame);
    })
signal_done parts signal.Tick id = whole_done parts (Tick id)
signal_done parts signal.Garbled id = whole_done parts (Garbled id)
signal_done parts signal.Lost id = whole_done parts (Lost id)

-- routes that aren't refused, as the only event
pub routes_done : (parts : List Part) (c : ℕ) (routes : List GivenRoute) →
    routes_checked (part c parts).customer.entry (new_routes_of c routes) ≡ Ok tt →
    hub_run parts (Routes c routes ∷ []) ≡ record {
      parts = set parts c (part_after_routes (entries_of_routes (new_routes_of c routes)) (part c parts));
      sent = [];
    }
routes_done parts c routes checked =
    ap (λ (w : Walked (Unit {0})). record {
      parts = set parts c (taken_where w (new_routes_of c routes) (part c parts));
      sent = [];
    }) checked

-- a sink's stop is within the event
pub is_within_one : (id : LineId) (piece : List ℕ) (taken : ℕ) (fault : RunFault) →
    (length piece ≤ taken → (fault.events ≡ 1) × (fault.bytes ≡ 0)) →
    (taken < length piece → (fault.events ≡ 0) × (fault.bytes ≡ taken)) →
    IsWithinOne (Bytes id piece) fault
is_within_one id piece taken fault whole part =
    ⊎_elim (λ (w : taken < length piece). let e = part w in (λ _. (e.0, omega (arith, e.1)), inl e.0))
    (λ (w : length piece ≤ taken). let e = whole w in (λ some. absurd (omega (arith, e.1, some)), inr e))
    (cases_lt taken (length piece))
