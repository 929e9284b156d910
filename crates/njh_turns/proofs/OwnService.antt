-- The events of a customer in a service, among those of all wires and what is given to all customers.
use Rattle.std.proofs.Common.{◌≡◌, ℕ, Bool, true, false, cond, eqb, List, [], ◌∷◌, ◌++◌, refl, ap, sym, ◌∙◌}
use Rattle.njh_table.specs.declared.LineId.{LineId}
use Rattle.njh_customer.specs.Runs.{OwnEvent}
use Rattle.njh_hub.specs.declared.event.Event.{Event}
use Rattle.njh_hub.specs.OwnEvents.{customer_of_event, own, events_of}
use Rattle.njh_turns.specs.Service.{Happening, Round, Given, service_events, own_story, OwnServiceDecides}
use Rattle.njh_turns.specs.Turns.{quiets_after, round_events}
use Rattle.njh_turns.specs.WireLaws.{own_wires}
use Rattle.njh_turns.proofs.OwnWires.{events_of-append, own_round, own_quiets}

-- what is given to a customer, or to another
given_first : (c : ℕ) (event : Event) (lines : List LineId) (quiets : List ℕ) (story : List Happening)
    (events : List OwnEvent) (b : Bool) → eqb (customer_of_event event) c ≡ b
    → events ≡ events_of c (service_events lines quiets story) →
    cond b (own event ∷ events) events
    ≡ events_of c (service_events lines quiets (cond b (Given event ∷ story) story))
given_first c event lines quiets story events true is same =
    ap (λ (es : List OwnEvent). own event ∷ es) same
    ∙ sym (ap (λ (b : Bool). cond b (own event ∷ events_of c (service_events lines quiets story))
    (events_of c (service_events lines quiets story))) is)
given_first c event lines quiets story events false is same = same

pub own_service : OwnServiceDecides
own_service c lines quiets [] = refl
own_service c lines quiets (Round turns ∷ story) =
    let mine = own_wires c lines lines in
    let first = round_events mine (own_wires c lines quiets) (own_wires c lines turns) in
    let later = service_events lines (quiets_after quiets turns) story in
    events_of-append c (round_events lines quiets turns) later
    ∙ ap (λ (es : List OwnEvent). es ++ events_of c later) (own_round c lines quiets turns)
    ∙ ap (λ (es : List OwnEvent). events_of c first ++ es) (own_service c lines (quiets_after quiets turns) story)
    ∙ ap (λ (qs : List ℕ). events_of c first ++ events_of c (service_events mine qs (own_story c lines story)))
    (own_quiets c lines quiets turns)
    ∙ sym (events_of-append c first (service_events mine
    (quiets_after (own_wires c lines quiets) (own_wires c lines turns))
    (own_story c lines story)))
own_service c lines quiets (Given event ∷ story) =
    given_first c event (own_wires c lines lines) (own_wires c lines quiets) (own_story c lines story)
    (events_of c (service_events lines quiets story)) (eqb (customer_of_event event) c) refl
    (own_service c lines quiets story)
