-- Of the bytes of a step only the last sends its frame; where a step's frame is sent.
use Rattle.std.proofs.Common.{◌≡◌, ℕ, zero, suc, ◌+◌, ◌-◌, ◌<◌, ◌≤◌, List, [], ◌∷◌, ◌++◌, length, take, refl}
use Rattle.std.proofs.Common.{ap, sym, subst, ◌∙◌, arith, append-nil}
use Rattle.std.proofs.lemmas.List.{get_or-set_same, length-set, length-append}
use Rattle.std.proofs.Math.Seq.{take-add}
use Rattle.njh_bisync.specs.Reading.{Rest}
use Rattle.njh_table.specs.declared.LineId.{LineId}
use Rattle.njh_customer.specs.Customer.{Customer}
use Rattle.njh_customer.specs.declared.signal.Signal.{Signal}
use Rattle.njh_customer.specs.declared.signal.Signal.TheVariants as signal
use Rattle.njh_customer.specs.Feeding.{Taking, take_step, byte_step, or_later, bytes_run, sent_on}
use Rattle.njh_customer.specs.Part.{rest_on, part_after_signal}
use Rattle.njh_customer.specs.Runs.{OwnBytes, Run, event_run}
use Rattle.njh_customer.proofs.PieceLaws.{cuts_are_like}
use Rattle.njh_hub.specs.declared.event.Event.{Event}
use Rattle.njh_hub.specs.declared.event.Event.TheVariants.{Bytes}
use Rattle.njh_hub.specs.OwnEvents.{event_by}
use Rattle.njh_hub.specs.WholeHub.{Part, no_part, part, HubRun, sent_by, hub_run}
use Rattle.njh_hub.specs.Cuts.{run_until, cut_to, SendsAt}
use Rattle.njh_hub.proofs.PieceLaws.{after_bytes}
use Rattle.njh_hub.proofs.RunningLaws.{GoesOn, step_done, whole_done, known-there, sent_pair, signal_done}

-- ---- the last byte of a step

first_silent : (frame : List ℕ) (rest : Rest) (after : Customer) (l : ℕ) (later : Taking) (sent : List (ℕ × List ℕ))
    (k : ℕ) →
    suc k < (or_later 1 rest (record { after = after; frame = frame }) later).taken → (k < later.taken → sent ≡ []) →
    sent_on l frame ++ sent ≡ []
first_silent [] rest after l later sent k within silent = silent (omega arith)
first_silent (b ∷ frame) rest after l later sent k within silent = absurd (omega arith)

-- of the bytes of a step only the last sends a frame
pub silent_before : (rest : Rest) (c : Customer) (l : ℕ) (bytes : List ℕ) (k : ℕ)
    → k < (take_step rest c l bytes).taken →
    (bytes_run rest c l (take k bytes)).sent ≡ []
silent_before rest c l [] k within = absurd (omega arith)
silent_before rest c l (byte ∷ bytes) zero within = refl
silent_before rest c l (byte ∷ bytes) (suc k) within =
    let x = byte_step rest c l byte in
    first_silent x.frame x.rest x.after l (take_step x.rest x.after l bytes)
    (bytes_run x.rest x.after l (take k bytes)).sent k within
    (silent_before x.rest x.after l bytes k)

-- a byte less than a step takes sends no frame of it
pub byte_less : {start now after : List Part} {id : LineId} {piece left : List ℕ} {before used : ℕ}
    {frame : List ℕ} →
    GoesOn start now after id piece left before used frame → 0 < used →
    (after_bytes start id (take (before + used - 1) piece)).sent ≡ (after_bytes start id (take before piece)).sent
byte_less {start} {now} {after} {id} {piece} {left} {before} {used} {frame} h some =
    let c = id.customer in
    let l = id.number in
    let p = part c start in
    let front = take before piece in
    let x = event_run p (OwnBytes l front) in
    let k = used - 1 in
    let moved : part c now ≡ x.after = ap (part c) h.now_is
    ∙ get_or-set_same start c x.after no_part (known-there start id h.known) in
    let inside : l < length p.rests = omega (
      arith,
      h.rests,
      ap (λ (q : Part). length q.rests) moved,
      length-set p.rests l (bytes_run (rest_on l p) p.customer l front).rest,
    ) in
    let same : before + used - 1 ≡ before + k = omega arith in
    let cut : take (before + used - 1) piece ≡ front ++ take k left =
    ap (λ (n : ℕ). take n piece) same ∙ take-add before k piece
    ∙ ap (λ (bs : List ℕ). front ++ take k bs) (sym h.left_is) in
    let silent : (event_run (part c now) (OwnBytes l (take k left))).sent ≡ [] =
    silent_before (rest_on l (part c now)) (part c now).customer l left k (omega (arith, h.used_is, some)) in
    let P : Part → Type 0 = λ q. (event_run q (OwnBytes l (take k left))).sent ≡ [] in
    let none : (event_run x.after (OwnBytes l (take k left))).sent ≡ [] = subst P moved silent in
    let sent : (event_run p (OwnBytes l (front ++ take k left))).sent ≡ x.sent =
    sym (append-nil (event_run p (OwnBytes l (front ++ take k left))).sent)
    ∙ ap (λ (r : Run). r.sent) (cuts_are_like p l front (take k left) [] inside)
    ∙ ap (λ (s : List (ℕ × List ℕ)). x.sent ++ (s ++ [])) none ∙ append-nil x.sent in
    ap (λ (bs : List ℕ). sent_by c (event_run p (OwnBytes l bs)).sent) cut ∙ ap (sent_by c) sent

-- ---- where a frame is sent

-- the frames up to a step that sends one
pub step_sends : {start now after : List Part} {id : LineId} {piece left : List ℕ} {before used : ℕ} {frame : List ℕ} →
    GoesOn start now after id piece left before used frame → 0 < length frame →
    (run_until start (before + used) (Bytes id piece)).sent ≡ (after_bytes start id (take before piece)).sent
    ++ (id, frame) ∷ []
step_sends {start} {now} {after} {id} {piece} {left} {before} {used} {frame} h some =
    let sent = (after_bytes start id (take before piece)).sent in
    ap (λ (r : HubRun). r.sent) (whole_done start (Bytes id (take (before + used) piece)) ∙ step_done h)
    ∙ ap (λ (s : List (LineId × List ℕ)). sent ++ s) (sent_pair id frame some)

pub step_stops : {start now after : List Part} {id : LineId} {piece left : List ℕ} {before used : ℕ}
    {frame : List ℕ} →
    GoesOn start now after id piece left before used frame → 0 < length frame → 0 < used
    → before + used ≤ length piece →
    SendsAt start (Bytes id piece) (before + used)
step_stops {start} {now} {after} {id} {piece} {left} {before} {used} {frame} h some any within =
    let sent = (after_bytes start id (take before piece)).sent in
    let whole : length (run_until start (before + used) (Bytes id piece)).sent ≡ length sent + 1 =
    ap (λ (s : List (LineId × List ℕ)). length s) (step_sends h some) ∙ length-append sent ((id, frame) ∷ []) in
    let less : length (run_until start (before + used - 1) (Bytes id piece)).sent ≡ length sent =
    ap (λ (r : HubRun). length r.sent) (whole_done start (Bytes id (take (before + used - 1) piece)))
    ∙ ap (λ (s : List (LineId × List ℕ)). length s) (byte_less h any) in
    record { within = within; some = omega (arith, whole); last = λ _. omega (arith, whole, less) }

-- ---- signals

pub cut_to-event_by : (n : ℕ) (s : Signal) (id : LineId) → cut_to n (event_by s id) ≡ event_by s id
cut_to-event_by n signal.Tick id = refl
cut_to-event_by n signal.Garbled id = refl
cut_to-event_by n signal.Lost id = refl

-- a signal whose frame could not be written
pub signal_stops : (parts : List Part) (s : Signal) (id : LineId) (frame : List ℕ) →
    frame ≡ (part_after_signal (part id.customer parts) id.number s).frame → 0 < length frame
    → SendsAt parts (event_by s id) 0
signal_stops parts s id frame is some =
    let sent : (run_until parts 0 (event_by s id)).sent ≡ (id, frame) ∷ [] =
    ap (λ (e : Event). (hub_run parts (e ∷ [])).sent) (cut_to-event_by 0 s id)
    ∙ ap (λ (h : HubRun). h.sent) (signal_done parts s id)
    ∙ ap (λ (b : List ℕ). sent_by id.customer (sent_on id.number b)) (sym is) ∙ sent_pair id frame some in
    let one : length (run_until parts 0 (event_by s id)).sent ≡ 1 =
    ap (λ (s : List (LineId × List ℕ)). length s) sent in
    record { within = omega arith; some = omega (arith, one); last = λ none. absurd (omega (arith, none)) }
