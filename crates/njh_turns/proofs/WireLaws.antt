-- An event of a wire: its steps, the frames that are written, and a write that fails.
use Rattle.std.proofs.Common.{◌≡◌, ℕ, ◌+◌, ◌<◌, List, [], ◌∷◌, ◌++◌, length, map, take, set, refl}
use Rattle.std.proofs.Common.{Option, Some, ap, sym, ◌∙◌}
use Rattle.std.proofs.lemmas.List.{map-append}
use Rattle.njh_table.specs.declared.LineId.{LineId}
use Rattle.njh_customer.specs.declared.signal.Signal.{Signal}
use Rattle.njh_customer.specs.declared.signal.Signal.TheVariants as signal
use Rattle.njh_customer.specs.Feeding.{sent_on}
use Rattle.njh_customer.specs.Part.{part_after_signal}
use Rattle.njh_hub.specs.declared.event.Event.{Event}
use Rattle.njh_hub.specs.declared.event.Event.TheVariants.{Bytes, Lost}
use Rattle.njh_hub.specs.OwnEvents.{line_of_event, event_by}
use Rattle.njh_hub.specs.WholeHub.{Part, part, HubRun, sent_by, hub_run}
use Rattle.njh_hub.specs.Cuts.{run_until, cut_to}
use Rattle.njh_hub.proofs.CutLaws.{cut_to-event_by, step_sends}
use Rattle.njh_hub.proofs.PieceLaws.{after_bytes}
use Rattle.njh_hub.proofs.RunningLaws.{GoesOn, step_done, sent_pair, signal_done}
use Rattle.njh_hub.proofs.RunningLaws.{line-event_by}
use Rattle.njh_turns.specs.Wires.{WireAct, Unsent, sent_act, frame_acts, last_unsent, loss_of}

-- ---- what is written

pub frame_acts-sent : (id : LineId) (frame : List ℕ)
    → map sent_act (sent_by id.customer (sent_on id.number frame)) ≡ frame_acts frame
frame_acts-sent id [] = refl
frame_acts-sent id (b ∷ frame) = refl

pub last_unsent-append : (front : List (LineId × List ℕ)) (pair : LineId × List ℕ) →
    last_unsent (front ++ pair ∷ []) ≡ map sent_act front ++ Unsent pair.1 ∷ []
last_unsent-append [] pair = refl
last_unsent-append (x ∷ []) pair = refl
last_unsent-append (x ∷ y ∷ front) pair = ap (λ (s : List WireAct). sent_act x ∷ s)
    (last_unsent-append (y ∷ front) pair)

-- a step's frame is written behind those before it
pub step_written : {start now after : List Part} {id : LineId} {piece left : List ℕ} {before used : ℕ} {frame : List ℕ}
    →
    GoesOn start now after id piece left before used frame →
    map sent_act (after_bytes start id (take (before + used) piece)).sent
    ≡ map sent_act (after_bytes start id (take before piece)).sent ++ frame_acts frame
step_written {start} {now} {after} {id} {piece} {left} {before} {used} {frame} h =
    let sent = (after_bytes start id (take before piece)).sent in
    ap (λ (r : HubRun). map sent_act r.sent) (step_done h)
    ∙ map-append sent_act sent (sent_by id.customer (sent_on id.number frame))
    ∙ ap (λ (s : List WireAct). map sent_act sent ++ s) (frame_acts-sent id frame)

-- the write of a step's frame fails
pub step_unsent : {start now after : List Part} {id : LineId} {piece left : List ℕ} {before used : ℕ} {frame : List ℕ} →
    GoesOn start now after id piece left before used frame → 0 < length frame →
    last_unsent (run_until start (before + used) (Bytes id piece)).sent
    ≡ map sent_act (after_bytes start id (take before piece)).sent ++ Unsent frame ∷ []
step_unsent {start} {now} {after} {id} {piece} {left} {before} {used} {frame} h some =
    ap last_unsent (step_sends h some) ∙ last_unsent-append (after_bytes start id (take before piece)).sent (id, frame)

-- ---- signals

-- an event, and then the loss of its line
pub lost_next : (start now new : List Part) (event : Event) (id : LineId) → Some id ≡ line_of_event event →
    now ≡ (hub_run start (event ∷ [])).parts
    → new ≡ set now id.customer (part_after_signal (part id.customer now) id.number signal.Lost).after →
    new ≡ (hub_run start (event ∷ loss_of (line_of_event event))).parts
lost_next start now new event id on before after =
    after ∙ sym (ap (λ (h : HubRun). h.parts) (signal_done now signal.Lost id))
    ∙ ap (λ (ps : List Part). (hub_run ps (Lost id ∷ [])).parts) before
    ∙ ap (λ (o : Option LineId). (hub_run (hub_run start (event ∷ [])).parts (loss_of o)).parts) on

-- a signal, and then the loss of its line
pub lost_after : (start now new : List Part) (s : Signal) (id : LineId) →
    now ≡ (hub_run start (cut_to 0 (event_by s id) ∷ [])).parts →
    new ≡ set now id.customer (part_after_signal (part id.customer now) id.number signal.Lost).after →
    new ≡ (hub_run start (cut_to 0 (event_by s id) ∷ loss_of (line_of_event (event_by s id)))).parts
lost_after start now new s id before after =
    let on : Some id ≡ line_of_event (cut_to 0 (event_by s id)) =
    sym (ap line_of_event (cut_to-event_by 0 s id) ∙ line-event_by s id) in
    lost_next start now new (cut_to 0 (event_by s id)) id on before after
    ∙ ap (λ (e : Event). (hub_run start (cut_to 0 (event_by s id) ∷ loss_of (line_of_event e))).parts)
    (cut_to-event_by 0 s id)

pub signal_unsent : (parts : List Part) (s : Signal) (id : LineId) (frame : List ℕ) →
    frame ≡ (part_after_signal (part id.customer parts) id.number s).frame → 0 < length frame →
    last_unsent (run_until parts 0 (event_by s id)).sent ≡ Unsent frame ∷ []
signal_unsent parts s id frame is some =
    ap (λ (e : Event). last_unsent (hub_run parts (e ∷ [])).sent) (cut_to-event_by 0 s id)
    ∙ ap (λ (h : HubRun). last_unsent h.sent) (signal_done parts s id)
    ∙ ap (λ (b : List ℕ). last_unsent (sent_by id.customer (sent_on id.number b))) (sym is)
    ∙ ap last_unsent (sent_pair id frame some)
