-- A hub after some bytes on a line, and after a step by more.
use Rattle.std.proofs.Common.{◌≡◌, ℕ, ◌<◌, List, [], ◌∷◌, ◌++◌, length, take, set, refl, ap, sym, subst, ◌∙◌, arith}
use Rattle.std.proofs.lemmas.List.{get_or-set_same, set-set, set-get_or}
use Rattle.njh_table.specs.declared.LineId.{LineId}
use Rattle.njh_customer.specs.Feeding.{sent_on}
use Rattle.njh_customer.specs.Part.{part_after_bytes}
use Rattle.njh_customer.specs.Runs.{OwnBytes, Run, event_run}
use Rattle.njh_customer.proofs.PieceLaws.{no_bytes_do_nothing, steps_follow_bytes}
use Rattle.njh_hub.specs.declared.event.Event.TheVariants.{Bytes}
use Rattle.njh_hub.specs.WholeHub.{Part, no_part, part, sent_by, HubRun, hub_event}

pub sent_by-append : (c : ℕ) (xs ys : List (ℕ × List ℕ)) → sent_by c (xs ++ ys) ≡ sent_by c xs ++ sent_by c ys
sent_by-append c [] ys = refl
sent_by-append c (x ∷ xs) ys = ap (λ (s : List (LineId × List ℕ)). (record { customer = c; number = x.0 }, x.1) ∷ s)
    (sent_by-append c xs ys)

abbrev run_with : List Part → List (LineId × List ℕ) → HubRun
run_with parts sent = record { parts = parts; sent = sent }

-- a hub after some bytes on a line
abbrev pub after_bytes : List Part → LineId → List ℕ → HubRun
after_bytes parts id bytes = hub_event parts (Bytes id bytes)

-- a hub after a step by bytes on a line, with the frames that were sent before
abbrev pub stepped : HubRun → LineId → List ℕ → HubRun
stepped h id left =
    let t = part_after_bytes (part id.customer h.parts) id.number left in
    record { parts = set h.parts id.customer t.after; sent = h.sent ++ sent_by id.customer (sent_on id.number t.frame) }

-- no bytes change nothing
pub after_bytes-none : (parts : List Part) (id : LineId) → after_bytes parts id []
    ≡ record { parts = parts; sent = [] }
after_bytes-none parts id =
    let c = id.customer in
    ap (λ (r : Run). run_with (set parts c r.after) (sent_by c r.sent)) (no_bytes_do_nothing (part c parts) id.number)
    ∙ ap (λ (ps : List Part). run_with ps []) (set-get_or parts c no_part)

-- bytes on a line, and then a step from a part q
abbrev Goes : List Part → LineId → List ℕ → List ℕ → Part → Type 0
Goes parts id a left q =
    let t = part_after_bytes q id.number left in
    after_bytes parts id (a ++ take t.taken left)
    ≡ run_with (set (after_bytes parts id a).parts id.customer t.after)
    ((after_bytes parts id a).sent ++ sent_by id.customer (sent_on id.number t.frame))

-- what a line read is what its bytes lead to, whether a step came between or not
pub after_bytes-step : (parts : List Part) (id : LineId) (a left : List ℕ) →
    id.customer < length parts → id.number < length (part id.customer (after_bytes parts id a).parts).rests →
    (let t = part_after_bytes (part id.customer (after_bytes parts id a).parts) id.number left in
    after_bytes parts id (a ++ take t.taken left) ≡ stepped (after_bytes parts id a) id left)
after_bytes-step parts id a left there within =
    let c = id.customer in
    let l = id.number in
    let p = part c parts in
    let x = event_run p (OwnBytes l a) in
    let t = part_after_bytes x.after l left in
    let moved : part c (after_bytes parts id a).parts ≡ x.after = get_or-set_same parts c x.after no_part there in
    let inside : l < length x.after.rests = omega (arith, within, ap (λ (q : Part). length q.rests) moved) in
    let P : Part → Type 0 = λ q. Goes parts id a left q in
    subst P (sym moved) (
    ap (λ (r : Run). run_with (set parts c r.after) (sent_by c r.sent)) (steps_follow_bytes p l a left inside)
    ∙ ap (λ (s : List (LineId × List ℕ)). run_with (set parts c t.after) s)
    (sent_by-append c x.sent (sent_on l t.frame))
    ∙ ap (λ (ps : List Part). run_with ps (sent_by c x.sent ++ sent_by c (sent_on l t.frame)))
    (sym (set-set parts c x.after t.after)))
