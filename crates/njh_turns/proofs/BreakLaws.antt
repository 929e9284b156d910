-- A fault of the keeper, where it breaks off an event of a wire, a turn or a round.
use Rattle.std.proofs.Common.{◌≡◌, ℕ, ◌+◌, ◌<◌, ◌≤◌, List, [], ◌∷◌, ◌++◌, length, map, take, set, get_or, refl, Some}
use Rattle.std.proofs.Common.{Result, Ok, ap, sym, subst, ◌∙◌, ⊎_elim, arith, ◌⊎◌, inl, inr, ◌≢◌}
use Rattle.std.specs.Prelude.{OnErr}
use Rattle.std.proofs.lemmas.Bool.{cases_eq}
use Rattle.std.proofs.lemmas.List.{length-append, get_or_read, get_or-set_same, get_or-set_other}
use Rattle.njh_table.specs.declared.LineId.{LineId}
use Rattle.njh_customer.specs.Feeding.{sent_on}
use Rattle.njh_customer.specs.Part.{part_after_signal}
use Rattle.njh_customer.specs.declared.signal.Signal.{Signal}
use Rattle.njh_customer.specs.declared.signal.Signal.TheVariants as signal
use Rattle.njh_hub.specs.declared.event.Event.{Event}
use Rattle.njh_hub.specs.declared.event.Event.TheVariants.{Bytes}
use Rattle.njh_hub.specs.OwnEvents.{event_by, first_bytes}
use Rattle.njh_hub.specs.Resting.{IsResting}
use Rattle.njh_hub.specs.Sent.{IsCounted}
use Rattle.njh_hub.specs.WholeHub.{Part, HubRun, part, hub_run, sent_by}
use Rattle.njh_hub.specs.Cuts.{cut_to}
use Rattle.njh_hub.proofs.PieceLaws.{after_bytes}
use Rattle.njh_hub.proofs.RunningLaws.{GoesOn, counted_from, part_done, signal_done, step_done, whole_done}
use Rattle.njh_hub.proofs.CutLaws.{cut_to-event_by, signal_stops, step_stops}
use Rattle.njh_turns.specs.declared.wire_reading.Reading.{Reading}
use Rattle.njh_turns.specs.declared.wire_reading.Reading.TheVariants as reading
use Rattle.njh_turns.specs.declared.wire_reading.WireFault.{WireFault}
use Rattle.njh_turns.specs.Breaks.{Break, AtStep, AtLoss, AreWithheld, BrokenTurn, EventBreaks, IsAtLoss, RoundStops}
use Rattle.njh_turns.specs.Breaks.{TurnBreaks, acts_before}
use Rattle.njh_turns.specs.Turns.{Turn, IsRound, no_line_id, wire_event, HubMoment, hub_wires}
use Rattle.njh_turns.specs.Wires.{Failed, IsDone, WireAct, Unsent, answer_acts, heard_of, sent_act, WireSays, hub_wire}
use Rattle.njh_turns.proofs.TurnLaws.{counted_on, failed-err, prompted-ok}
use Rattle.njh_turns.proofs.WireLaws.{lost_after, lost_next, signal_unsent}
use Rattle.njh_turns.proofs.WireLaws.{step_unsent}

-- ---- a step by bytes

-- a step sends at most one frame
one_sent : (id : LineId) (frame : List ℕ) → length (sent_by id.customer (sent_on id.number frame)) ≤ 1
one_sent id [] = omega arith
one_sent id (b ∷ frame) = omega arith

-- a step by bytes of a piece, and the keeper that failed behind it
pub bytes_break : {S : Type 0} (says : WireSays S) (wire now_wire : S)
    {start now after : List Part} {id : LineId} {piece left : List ℕ} {before used : ℕ} {frame : List ℕ} →
    GoesOn start now after id piece left before used frame → before + used ≤ length piece →
    says.passed wire now_wire (map sent_act (after_bytes start id (take before piece)).sent) →
    says.count wire ≤ says.count now_wire →
    EventBreaks says (hub_wire start wire) (Bytes id piece) (AtStep before (before + used)) (hub_wire after now_wire)
bytes_break says wire now_wire {start} {now} {after} {id} {piece} {left} {before} {used} {frame} h within acts counts =
    let e = Bytes id piece in
    let sent = (after_bytes start id (take before piece)).sent in
    let done : hub_run start (first_bytes (Some e) before) ≡ after_bytes start id (take before piece) =
    part_done start id piece before in
    let led : hub_run start (cut_to (before + used) e ∷ []) ≡ record {
      parts = after;
      sent = sent ++ sent_by id.customer (sent_on id.number frame);
    } = whole_done start (Bytes id (take (before + used) piece)) ∙ step_done h in
    let P : HubRun → Type 0 = λ r. says.passed wire now_wire (map sent_act r.sent) in
    let many : length (hub_run start (cut_to (before + used) e ∷ [])).sent
    ≡ length sent + length (sent_by id.customer (sent_on id.number frame)) =
    ap (λ (r : HubRun). length r.sent) led ∙ length-append sent (sent_by id.customer (sent_on id.number frame)) in
    record {
      hub = sym (ap (λ (r : HubRun). r.parts) led);
      acts = subst P (sym done) acts;
      stop = (
        omega arith,
        within,
        omega (arith, many, one_sent id frame, ap (λ (r : HubRun). length r.sent) done),
      );
      counts = counts;
      counted = λ never. absurd never;
    }

-- a step by bytes whose frame could not be written, and the loss of the line behind it
pub bytes_unsent : {S : Type 0} (says : WireSays S) (wire now_wire new_wire : S) →
    ((a b c : S) (xs ys : List WireAct) → says.passed a b xs → says.passed b c ys → says.passed a c (xs ++ ys)) →
    {start now after : List Part} {id : LineId} {piece left : List ℕ} {before used : ℕ} {frame : List ℕ}
    (new : List Part) →
    GoesOn start now after id piece left before used frame → 0 < length frame → 0 < used
    → before + used ≤ length piece →
    says.passed wire now_wire (map sent_act (after_bytes start id (take before piece)).sent) →
    says.count wire ≤ says.count now_wire →
    says.passed now_wire new_wire (Unsent frame ∷ []) → says.count now_wire ≤ says.count new_wire →
    IsCounted (says.count now_wire) (says.count new_wire) →
    new ≡ set after id.customer (part_after_signal (part id.customer after) id.number signal.Lost).after →
    IsDone says (hub_wire start wire) (Bytes id piece) (Some (before + used)) (hub_wire new new_wire)
bytes_unsent {S} says wire now_wire new_wire more {start} {now} {after} {id} {piece} {left} {before} {used} {frame}
    new h some any within acts counts unsent counts_then counted lost =
    let n = before + used in
    let sent = map sent_act (after_bytes start id (take before piece)).sent in
    let P : List WireAct → Type 0 = λ s. says.passed wire new_wire s in
    let here : after ≡ (hub_run start (Bytes id (take n piece) ∷ [])).parts =
    sym (ap (λ (r : HubRun). r.parts) (whole_done start (Bytes id (take n piece)) ∙ step_done h)) in
    record {
      hub = lost_next start after new (Bytes id (take n piece)) id refl here lost;
      acts = subst P (sym (step_unsent h some)) (more wire now_wire new_wire sent (Unsent frame ∷ []) acts unsent);
      stop = step_stops h some any within;
      counts = omega (arith, counts, counts_then);
      counted = λ _. counted_from (says.count wire) (says.count now_wire) (says.count new_wire) counts counted;
    }

-- the keeper that failed at the loss of a line
pub loss_breaks : {S : Type 0} (says : WireSays S) (parts new : List Part)
    (event : Event)
    (n : ℕ) (wire new_wire : S) → IsDone says (hub_wire parts wire) event (Some n) (hub_wire new new_wire) →
    EventBreaks says (hub_wire parts wire) event (AtLoss n) (hub_wire new new_wire)
loss_breaks says parts new event n wire new_wire d = record {
  hub = d.hub;
  acts = d.acts;
  stop = d.stop;
  counts = d.counts;
  counted = λ _. d.counted refl;
}

-- ---- a signal

-- where a step by a signal stands
pub signal_led : (start after : List Part) (s : Signal) (id : LineId) →
    after ≡ set start id.customer (part_after_signal (part id.customer start) id.number s).after →
    after ≡ (hub_run start (cut_to 0 (event_by s id) ∷ [])).parts
signal_led start after s id is =
    is ∙ sym (ap (λ (h : HubRun). h.parts) (signal_done start s id))
    ∙ sym (ap (λ (e : Event). (hub_run start (e ∷ [])).parts) (cut_to-event_by 0 s id))

first_none : (s : Signal) (id : LineId) → first_bytes (Some (event_by s id)) 0 ≡ []
first_none signal.Tick id = refl
first_none signal.Garbled id = refl
first_none signal.Lost id = refl

-- a signal, and the keeper that failed behind it
pub signal_breaks : {S : Type 0} (says : WireSays S) (start after : List Part)
    (s : Signal)
    (id : LineId) (wire : S) → says.passed wire wire [] →
    after ≡ set start id.customer (part_after_signal (part id.customer start) id.number s).after →
    EventBreaks says (hub_wire start wire) (event_by s id) (AtStep 0 0) (hub_wire after wire)
signal_breaks says start after s id wire none is =
    let t = part_after_signal (part id.customer start) id.number s in
    let led : hub_run start (cut_to 0 (event_by s id) ∷ []) ≡ record {
      parts = set start id.customer t.after;
      sent = sent_by id.customer (sent_on id.number t.frame);
    } = ap (λ (e : Event). hub_run start (e ∷ [])) (cut_to-event_by 0 s id) ∙ signal_done start s id in
    let nothing : first_bytes (Some (event_by s id)) 0 ≡ [] = first_none s id in
    let P : List Event → Type 0 = λ es. says.passed wire wire (map sent_act (hub_run start es).sent) in
    record {
      hub = signal_led start after s id is;
      acts = subst P (sym nothing) none;
      stop = (
        omega arith,
        omega arith,
        omega (arith, ap (λ (r : HubRun). length r.sent) led, one_sent id t.frame),
      );
      counts = omega arith;
      counted = λ never. absurd never;
    }

-- a signal whose frame could not be written, and the loss of the line behind it
pub signal_lost : {S : Type 0} (says : WireSays S) (start after new : List Part)
    (s : Signal)
    (id : LineId) (frame : List ℕ) (wire new_wire : S) →
    after ≡ set start id.customer (part_after_signal (part id.customer start) id.number s).after →
    frame ≡ (part_after_signal (part id.customer start) id.number s).frame → 0 < length frame →
    says.passed wire new_wire (Unsent frame ∷ []) → says.count wire ≤ says.count new_wire →
    IsCounted (says.count wire) (says.count new_wire) →
    new ≡ set after id.customer (part_after_signal (part id.customer after) id.number signal.Lost).after →
    IsDone says (hub_wire start wire) (event_by s id) (Some 0) (hub_wire new new_wire)
signal_lost {S} says start after new s id frame wire new_wire is sends some unsent counts counted lost =
    let P : List WireAct → Type 0 = λ acts. says.passed wire new_wire acts in
    record {
      hub = lost_after start after new s id (signal_led start after s id is) lost;
      acts = subst P (sym (signal_unsent start s id frame sends some)) unsent;
      stop = signal_stops start s id frame sends some;
      counts = counts;
      counted = λ _. counted;
    }

-- ---- a turn

-- a turn of a read and of what came of its answer
pub turn_breaks : {S : Type 0} (says : WireSays S) (parts new : List Part)
    (id : LineId)
    (quiet : ℕ) (answer : Result Reading WireFault) (buffer : List ℕ) (event : Event) (break : Break)
    (wire read new_wire : S) →
    ((a b c : S) (xs ys : List WireAct) → says.passed a b xs → says.passed b c ys → says.passed a c (xs ++ ys)) →
    says.passed wire read (answer_acts (heard_of answer buffer)) → says.count wire ≤ says.count read →
    OnErr answer (IsCounted (says.count wire) (says.count read)) →
    (answer ≡ Ok reading.Prompted → IsResting parts id) →
    wire_event id quiet (heard_of answer buffer) ≡ Some event →
    EventBreaks says (hub_wire parts read) event break (hub_wire new new_wire) →
    TurnBreaks says id quiet (hub_wire parts wire)
    (record { heard = heard_of answer buffer; event = event; break = break }) (hub_wire new new_wire)
turn_breaks says parts new id quiet answer buffer event break wire read new_wire more answered counts counted
    rests told b = record {
      told = told;
      hub = b.hub;
      acts = more wire read new_wire (answer_acts (heard_of answer buffer)) (acts_before parts break event) answered
          b.acts;
      stop = b.stop;
      prompted = λ w. prompted-ok answer buffer w rests;
      counts = omega (arith, counts, b.counts);
      counted = λ fault. ⊎_elim (λ (w : heard_of answer buffer ≡ Failed). counted_on (says.count wire) (says.count read)
          (says.count new_wire) counts
          b.counts (failed-err answer buffer w counted))
          (λ (w : IsAtLoss break). counted_from (says.count wire) (says.count read) (says.count new_wire) counts
          (b.counted w)) fault;
    }

-- ---- a round

-- some wires had their turns, and the next one's was broken off
pub round_stops : {S : Type 0} {says : WireSays S} {lines : List LineId} {before mid : HubMoment S} {turns : List Turn}
    {new : List Part} {new_wire : S} (i : ℕ) (wire : S) (turn : BrokenTurn) → IsRound says lines before turns mid →
    length turns ≡ i → i < length lines → i < length mid.wires → wire ≡ get_or mid.wires i wire →
    TurnBreaks says (get_or lines i no_line_id) (get_or mid.quiets i 0) (hub_wire mid.parts wire) turn
    (hub_wire new new_wire) → RoundStops says lines before (hub_wires new (set mid.wires i new_wire))
round_stops {S} {says} {lines} {before} {mid} {turns} {new} {new_wire} i wire turn so_far at within wires_left wire_is
    broke =
    let P : ℕ → S → Type 0 = λ k w. TurnBreaks says (get_or lines k no_line_id) (get_or mid.quiets k 0)
    (hub_wire mid.parts w) turn (hub_wire new new_wire) in
    record {
      turns = turns;
      mid = mid;
      had = so_far;
      within = omega (arith, at, within);
      turn = turn;
      new_wire = new_wire;
      breaks = λ d.
          let here : wire ≡ get_or mid.wires (length turns) d = get_or_read mid.wires i wire wires_left wire_is d
          ∙ ap (λ (k : ℕ). get_or mid.wires k d) (sym at) in
          subst (λ (w : S). P (length turns) w) here (subst (λ (k : ℕ). P k wire) (sym at) broke);
      wires_left = ap (λ (k : ℕ). set mid.wires k new_wire) (sym at);
    }

-- the next wire had its turn, or the beginning of one, and no byte went out of it
pub withheld_on : {S : Type 0} (says : WireSays S)
    → ((a b c : S) → says.withheld a b → says.withheld b c → says.withheld a c) →
    (wires now_wires : List S) (i : ℕ) (wire new_wire : S) → i < length now_wires → wire ≡ get_or now_wires i wire →
    AreWithheld says wires now_wires → says.withheld wire new_wire
    → AreWithheld says wires (set now_wires i new_wire)
withheld_on {S} says more wires now_wires i wire new_wire there wire_is so_far this = λ k d. at k d (cases_eq k i)
  where
    at : (k : ℕ) (d : S) → (k ≡ i) ⊎ (k ≢ i) → says.withheld (get_or wires k d) (get_or (set now_wires i new_wire) k d)
    at k d (inl same) =
        let here : wire ≡ get_or now_wires i d = get_or_read now_wires i wire there wire_is d in
        let before : says.withheld (get_or wires i d) wire = subst (says.withheld (get_or wires i d)) (sym here)
        (so_far i d) in
        let all : says.withheld (get_or wires i d) (get_or (set now_wires i new_wire) i d) =
        subst (says.withheld (get_or wires i d)) (sym (get_or-set_same now_wires i new_wire d there))
        (more (get_or wires i d) wire new_wire before this) in
        subst (λ (n : ℕ). says.withheld (get_or wires n d) (get_or (set now_wires i new_wire) n d)) (sym same) all
    at k d (inr other) =
        subst (says.withheld (get_or wires k d)) (sym (get_or-set_other now_wires i k new_wire d other))
        (so_far k d)
