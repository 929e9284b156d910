-- Where a run stops whose sink refuses a frame: right behind that frame.
use Rattle.std.proofs.Common.{◌≡◌, ℕ, ◌+◌, ◌<◌, ◌≤◌, List, [], ◌∷◌, length, take, refl, ap, sym, subst, ◌∙◌, ⊎_elim}
use Rattle.std.proofs.Common.{arith, inl, inr}
use Rattle.std.proofs.Common.{Option, Some, get_or}
use Rattle.std.proofs.lemmas.Bool.{cases_lt}
use Rattle.std.proofs.lemmas.Option.{slice_get-get_or}
use Rattle.std.specs.Prelude.{IsSomeAnd, slice_get}
use Rattle.njh_table.specs.declared.LineId.{LineId}
use Rattle.njh_customer.specs.Part.{part_after_bytes}
use Rattle.njh_customer.specs.declared.signal.Signal.{Signal}
use Rattle.njh_customer.specs.declared.signal.Signal.TheVariants as signal
use Rattle.njh_hub.specs.declared.event.Event.{Event}
use Rattle.njh_hub.specs.declared.event.Event.TheVariants.{Bytes}
use Rattle.njh_hub.specs.declared.fault.RunFault.{RunFault}
use Rattle.njh_hub.specs.OwnEvents.{bytes_in_event, event_by}
use Rattle.njh_hub.specs.RunStops.{IsBehindFrame}
use Rattle.njh_hub.specs.WholeHub.{Part, hub_run}
use Rattle.njh_hub.specs.Cuts.{SendsAt}

pub signal-bytes : (s : Signal) (id : LineId) → bytes_in_event (event_by s id) ≡ 0
signal-bytes signal.Tick id = refl
signal-bytes signal.Garbled id = refl
signal-bytes signal.Lost id = refl

-- no bytes send no frame
pub some_taken : (p : Part) (l : ℕ) (left : List ℕ) → 0 < length (part_after_bytes p l left).frame → 0 < length left
some_taken p l [] some = absurd (omega (arith, some))
some_taken p l (b ∷ left) some = omega arith

-- a sink's stop behind some bytes of a piece, the last of which sent a frame
pub bytes_stop : (parts : List Part) (id : LineId) (piece : List ℕ) (taken : ℕ) (fault : RunFault) →
    SendsAt parts (Bytes id piece) taken → (length piece ≤ taken → (fault.events ≡ 1) × (fault.bytes ≡ 0)) →
    (taken < length piece → (fault.events ≡ 0) × (fault.bytes ≡ taken)) → IsBehindFrame parts 0 (Bytes id piece) fault
bytes_stop parts id piece taken fault sends whole part = record {
  used = taken;
  sends = sends;
  stops = ⊎_elim (λ (w : taken < length piece). inl (w, (part w).0, (part w).1))
      (λ (w : length piece ≤ taken). inr (omega (arith, w, sends.within), (whole w).0, (whole w).1))
      (cases_lt taken (length piece));
}

-- the same stop, counted from the first event of a run
pub stop_later : (start now : List Part) (events : List Event) (k : ℕ) (event : Event) (fault after : RunFault) →
    k < length events → event ≡ get_or events k event → now ≡ (hub_run start (take k events)).parts →
    after ≡ record fault { events = k + fault.events } → IsBehindFrame now 0 event fault →
    (whole : ℕ) × IsSomeAnd (slice_get events whole)
    (λ e. IsBehindFrame (hub_run start (take whole events)).parts whole e after)
stop_later start now events k event fault after within found here is stop =
    let at : slice_get events k ≡ Some event = slice_get-get_or events k event within ∙ ap Some (sym found) in
    let P : Option Event → Type 0 = λ o. IsSomeAnd o
    (λ e. IsBehindFrame (hub_run start (take k events)).parts k e after) in
    let Q : List Part → Type 0 = λ ps. SendsAt ps event stop.used in
    let many : after.events ≡ k + fault.events = ap (λ (f : RunFault). f.events) is in
    let bytes : after.bytes ≡ fault.bytes = ap (λ (f : RunFault). f.bytes) is in
    let stopped : IsBehindFrame (hub_run start (take k events)).parts k event after = record {
      used = stop.used;
      sends = subst Q here stop.sends;
      stops = ⊎_elim (λ (w : (stop.used < bytes_in_event event) × (fault.events ≡ 0) × (fault.bytes ≡ stop.used)).
          inl (w.0, omega (arith, many, w.1), bytes ∙ w.2))
          (λ (w : (stop.used ≡ bytes_in_event event) × (fault.events ≡ 0 + 1) × (fault.bytes ≡ 0)).
          inr (w.0, omega (arith, many, w.1), bytes ∙ w.2)) stop.stops;
    } in
    (k, subst P (sym at) stopped)
