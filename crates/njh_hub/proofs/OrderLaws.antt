-- The frames of the events that happened, up to where a run stopped, begin those of all.
use Rattle.std.proofs.Common.{ℕ, zero, suc, List, [], ◌∷◌, ◌++◌, take, drop, Some, refl, sym, ap, ◌∙◌, subst}
use Rattle.std.proofs.Common.{append_assoc, append-nil, take-append-drop}
use Rattle.njh_table.specs.declared.LineId.{LineId}
use Rattle.njh_customer.specs.Runs.{OwnBytes, event_run}
use Rattle.njh_customer.proofs.PieceLaws.{first_bytes_send_first}
use Rattle.njh_hub.specs.declared.event.Event.{Event}
use Rattle.njh_hub.specs.declared.event.Event.TheVariants.{Bytes, Tick, Garbled, Lost, Routes, Order}
use Rattle.njh_hub.specs.Laws.{Begins, SentInOrder}
use Rattle.njh_hub.specs.OwnEvents.{first_bytes, first_events}
use Rattle.njh_hub.specs.WholeHub.{Part, part, sent_by, hub_event, hub_run}
use Rattle.njh_hub.proofs.PieceLaws.{sent_by-append}

sent_by-begins : (c : ℕ) (front whole : List (ℕ × List ℕ)) → Begins front whole
    → Begins (sent_by c front ++ []) (sent_by c whole)
sent_by-begins c front whole begins = (
  sent_by c begins.0,
  ap (λ (s : List (LineId × List ℕ)). s ++ sent_by c begins.0) (append-nil (sent_by c front))
      ∙ sym (sent_by-append c front begins.0) ∙ ap (sent_by c) begins.1,
)

-- of one event, of which so many bytes happened
event-begins : (parts : List Part) (event : Event) (n : ℕ) →
    Begins (hub_run parts (first_bytes (Some event) n)).sent (hub_event parts event).sent
event-begins parts event zero = ((hub_event parts event).sent, refl)
event-begins parts (Bytes id piece) (suc n) =
    let p = part id.customer parts in
    let front = take (suc n) piece in
    let sent = (event_run p (OwnBytes id.number front)).sent in
    let P : List ℕ → Type 0 = λ bytes. Begins (sent_by id.customer sent ++ [])
    (sent_by id.customer (event_run p (OwnBytes id.number bytes)).sent) in
    subst P (take-append-drop (suc n) piece)
    (sent_by-begins id.customer sent _ (first_bytes_send_first p id.number front (drop (suc n) piece)))
event-begins parts (Tick id) (suc n) = ((hub_event parts (Tick id)).sent, refl)
event-begins parts (Garbled id) (suc n) = ((hub_event parts (Garbled id)).sent, refl)
event-begins parts (Lost id) (suc n) = ((hub_event parts (Lost id)).sent, refl)
event-begins parts (Routes c routes) (suc n) = ((hub_event parts (Routes c routes)).sent, refl)
event-begins parts (Order c order) (suc n) = ((hub_event parts (Order c order)).sent, refl)

pub sent_in_order : SentInOrder
sent_in_order parts [] zero zero = ([], refl)
sent_in_order parts [] zero (suc n) = ([], refl)
sent_in_order parts [] (suc k) zero = ([], refl)
sent_in_order parts [] (suc k) (suc n) = ([], refl)
sent_in_order parts (event ∷ events) zero n =
    let here = event-begins parts event n in
    let x = hub_event parts event in
    let later = (hub_run x.parts events).sent in (
      here.0 ++ later,
      sym (append_assoc (hub_run parts (first_bytes (Some event) n)).sent here.0 later)
          ∙ ap (λ (s : List (LineId × List ℕ)). s ++ later) here.1,
    )
sent_in_order parts (event ∷ events) (suc k) n =
    let x = hub_event parts event in
    let later = sent_in_order x.parts events k n in (
      later.0,
      append_assoc x.sent (hub_run x.parts (first_events events k n)).sent later.0
          ∙ ap (λ (s : List (LineId × List ℕ)). x.sent ++ s) later.1,
    )
