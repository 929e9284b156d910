-- The events of a customer among those of all wires.
use Rattle.std.proofs.Common.{◌≡◌, ℕ, Bool, true, false, cond, eqb, List, [], ◌∷◌, ◌++◌, map, Option, Some, None, refl}
use Rattle.std.proofs.Common.{ap, sym, ◌∙◌}
use Rattle.njh_table.specs.declared.LineId.{LineId}
use Rattle.njh_customer.specs.Runs.{OwnEvent}
use Rattle.njh_hub.specs.declared.event.Event.{Event}
use Rattle.njh_hub.specs.declared.event.Event.TheVariants.{Bytes, Tick, Garbled, Lost, Routes, Order}
use Rattle.njh_hub.specs.OwnEvents.{customer_of_event, line_of_event, own, events_of}
use Rattle.njh_hub.specs.Cuts.{cut_to}
use Rattle.njh_turns.specs.Wires.{Heard, Came, Quiet, Pending, Prompted, Closed, Absent, Failed, loss_of, heard_events}
use Rattle.njh_turns.specs.Turns.{Turn, wire_event, told_where, turn_events, quiet_after, round_events, quiets_after}
use Rattle.njh_turns.specs.Turns.{all_events, no_quiets}
use Rattle.njh_turns.specs.WireLaws.{own_wires, OwnWiresDecide}
use Rattle.njh_turns.proofs.RoundLaws.{round_events-none, quiets_after-none}

first-append : {A : Type 0} (b : Bool) (x : A) (xs ys zs : List A) → xs ≡ ys ++ zs →
    cond b (x ∷ xs) xs ≡ cond b (x ∷ ys) ys ++ zs
first-append true x xs ys zs e = ap (λ s. x ∷ s) e
first-append false x xs ys zs e = e

pub events_of-append : (c : ℕ) (xs ys : List Event) → events_of c (xs ++ ys) ≡ events_of c xs ++ events_of c ys
events_of-append c [] ys = refl
events_of-append c (x ∷ xs) ys =
    first-append (eqb (customer_of_event x) c) (own x) (events_of c (xs ++ ys)) (events_of c xs) (events_of c ys)
    (events_of-append c xs ys)

-- ---- a turn of another customer's wire

abbrev OnLine : LineId → Option Event → Type 0
OnLine id None = Unit {0}
OnLine id (Some event) = line_of_event event ≡ Some id

tick_on : (id : LineId) (b : Bool) → OnLine id (cond b (Some (Tick id)) None)
tick_on id true = refl
tick_on id false = tt

event_on : (id : LineId) (quiet : ℕ) (heard : Heard) → OnLine id (wire_event id quiet heard)
event_on id quiet (Came piece) = refl
event_on id quiet Quiet = tick_on id (eqb quiet 9)
event_on id quiet Pending = tt
event_on id quiet Prompted = refl
event_on id quiet Closed = refl
event_on id quiet Absent = tt
event_on id quiet Failed = refl

customer_of-cut : (n : ℕ) (event : Event) → customer_of_event (cut_to n event) ≡ customer_of_event event
customer_of-cut n (Bytes id piece) = refl
customer_of-cut n (Tick id) = refl
customer_of-cut n (Garbled id) = refl
customer_of-cut n (Lost id) = refl
customer_of-cut n (Routes c routes) = refl
customer_of-cut n (Order c order) = refl

same_customer : (l id : LineId) → Some l ≡ Some id → l.customer ≡ id.customer
same_customer l id is = let same : l ≡ id = cc is in ap (λ (x : LineId). x.customer) same

-- an event on a line is of that line's customer
customer_of-on : (event : Event) (id : LineId) → line_of_event event ≡ Some id → customer_of_event event ≡ id.customer
customer_of-on (Bytes l piece) id on = same_customer l id on
customer_of-on (Tick l) id on = same_customer l id on
customer_of-on (Garbled l) id on = same_customer l id on
customer_of-on (Lost l) id on = same_customer l id on
customer_of-on (Routes c routes) id on = cc on
customer_of-on (Order c order) id on = cc on

told-other : (c : ℕ) (id : LineId) (cut : Option ℕ) (event : Event) → line_of_event event ≡ Some id
    → eqb id.customer c ≡ false →
    events_of c (heard_events cut event) ≡ []
told-other c id None event on other =
    ap (λ (d : ℕ). cond (eqb d c) (own event ∷ []) []) (customer_of-on event id on)
    ∙ ap (λ (b : Bool). cond b (own event ∷ []) []) other
told-other c id (Some n) event on other =
    let last : List OwnEvent = events_of c (loss_of (line_of_event event)) in
    ap (λ (d : ℕ). cond (eqb d c) (own (cut_to n event) ∷ last) last)
    (customer_of-cut n event ∙ customer_of-on event id on)
    ∙ ap (λ (b : Bool). cond b (own (cut_to n event) ∷ last) last) other
    ∙ ap (λ (o : Option LineId). events_of c (loss_of o)) on
    ∙ ap (λ (b : Bool). cond b (own (Lost id) ∷ []) []) other

where-other : (c : ℕ) (id : LineId) (cut : Option ℕ) (event : Option Event) → OnLine id event
    → eqb id.customer c ≡ false →
    events_of c (told_where cut event) ≡ []
where-other c id cut None on other = refl
where-other c id cut (Some event) on other = told-other c id cut event on other

turn-other : (c : ℕ) (id : LineId) (quiet : ℕ) (turn : Turn) → eqb id.customer c ≡ false
    → events_of c (turn_events id quiet turn) ≡ []
turn-other c id quiet turn other = where-other c id turn.cut (wire_event id quiet turn.heard)
    (event_on id quiet turn.heard) other

-- ---- a round

round_events-no_quiets : (lines : List LineId) (turns : List Turn) → round_events lines [] turns ≡ []
round_events-no_quiets [] turns = refl
round_events-no_quiets (line ∷ lines) turns = refl

own_turn : (c : ℕ) (id : LineId) (quiet : ℕ) (turn : Turn) (lines : List LineId) (quiets : List ℕ) (turns : List Turn)
    (b : Bool) →
    eqb id.customer c ≡ b → events_of c (turn_events id quiet turn) ++ events_of c (round_events lines quiets turns)
    ≡ events_of c (round_events (cond b (id ∷ lines) lines) (cond b (quiet ∷ quiets) quiets)
    (cond b (turn ∷ turns) turns))
own_turn c id quiet turn lines quiets turns true is =
    sym (events_of-append c (turn_events id quiet turn) (round_events lines quiets turns))
own_turn c id quiet turn lines quiets turns false is =
    ap (λ (es : List OwnEvent). es ++ events_of c (round_events lines quiets turns)) (turn-other c id quiet turn is)

pub own_round : (c : ℕ) (lines : List LineId) (quiets : List ℕ) (turns : List Turn) →
    events_of c (round_events lines quiets turns)
    ≡ events_of c (round_events (own_wires c lines lines) (own_wires c lines quiets) (own_wires c lines turns))
own_round c [] quiets turns = refl
own_round c (line ∷ lines) [] turns =
    sym (ap (events_of c) (round_events-no_quiets (own_wires c (line ∷ lines) (line ∷ lines))
    (own_wires c (line ∷ lines) turns)))
own_round c (line ∷ lines) (quiet ∷ quiets) [] =
    sym (ap (events_of c) (round_events-none (own_wires c (line ∷ lines) (line ∷ lines))
    (own_wires c (line ∷ lines) (quiet ∷ quiets))))
own_round c (line ∷ lines) (quiet ∷ quiets) (turn ∷ turns) =
    events_of-append c (turn_events line quiet turn) (round_events lines quiets turns)
    ∙ ap (λ (es : List OwnEvent). events_of c (turn_events line quiet turn) ++ es) (own_round c lines quiets turns)
    ∙ own_turn c line quiet turn (own_wires c lines lines) (own_wires c lines quiets) (own_wires c lines turns)
    (eqb line.customer c) refl

own_quiets-where : (quiet : ℕ) (turn : Turn) (quiets : List ℕ) (turns : List Turn) (b : Bool) →
    cond b (quiet_after quiet turn.heard ∷ quiets_after quiets turns) (quiets_after quiets turns)
    ≡ quiets_after (cond b (quiet ∷ quiets) quiets) (cond b (turn ∷ turns) turns)
own_quiets-where quiet turn quiets turns true = refl
own_quiets-where quiet turn quiets turns false = refl

pub own_quiets : (c : ℕ) (lines : List LineId) (quiets : List ℕ) (turns : List Turn) →
    own_wires c lines (quiets_after quiets turns) ≡ quiets_after (own_wires c lines quiets) (own_wires c lines turns)
own_quiets c [] quiets turns = refl
own_quiets c (line ∷ lines) [] turns = refl
own_quiets c (line ∷ lines) (quiet ∷ quiets) [] = quiets_after-none (own_wires c (line ∷ lines) (quiet ∷ quiets))
own_quiets c (line ∷ lines) (quiet ∷ quiets) (turn ∷ turns) =
    ap (λ (qs : List ℕ). cond (eqb line.customer c) (quiet_after quiet turn.heard ∷ qs) qs)
    (own_quiets c lines quiets turns)
    ∙ own_quiets-where quiet turn (own_wires c lines quiets) (own_wires c lines turns) (eqb line.customer c)

no_quiets-where : (id : LineId) (lines : List LineId) (b : Bool) →
    cond b (0 ∷ no_quiets lines) (no_quiets lines) ≡ no_quiets (cond b (id ∷ lines) lines)
no_quiets-where id lines true = refl
no_quiets-where id lines false = refl

own_no_quiets : (c : ℕ) (lines : List LineId)
    → own_wires c lines (no_quiets lines) ≡ no_quiets (own_wires c lines lines)
own_no_quiets c [] = refl
own_no_quiets c (line ∷ lines) =
    ap (λ (qs : List ℕ). cond (eqb line.customer c) (0 ∷ qs) qs) (own_no_quiets c lines)
    ∙ no_quiets-where line (own_wires c lines lines) (eqb line.customer c)

-- ---- all rounds

own_rounds : (c : ℕ) (lines : List LineId) (quiets : List ℕ) (rounds : List (List Turn)) →
    events_of c (all_events lines quiets rounds)
    ≡ events_of c (all_events (own_wires c lines lines) (own_wires c lines quiets) (map (own_wires c lines) rounds))
own_rounds c lines quiets [] = refl
own_rounds c lines quiets (round ∷ rounds) =
    let mine = own_wires c lines lines in
    let first = round_events mine (own_wires c lines quiets) (own_wires c lines round) in
    events_of-append c (round_events lines quiets round) (all_events lines (quiets_after quiets round) rounds)
    ∙ ap (λ (es : List OwnEvent). es ++ events_of c (all_events lines (quiets_after quiets round) rounds))
    (own_round c lines quiets round)
    ∙ ap (λ (es : List OwnEvent). events_of c first ++ es) (own_rounds c lines (quiets_after quiets round) rounds)
    ∙ ap (λ (qs : List ℕ). events_of c first ++ events_of c (all_events mine qs (map (own_wires c lines) rounds)))
    (own_quiets c lines quiets round)
    ∙ sym (events_of-append c first (all_events mine (quiets_after (own_wires c lines quiets) (own_wires c lines round))
    (map (own_wires c lines) rounds)))

pub own_wires_decide : OwnWiresDecide
own_wires_decide c lines rounds =
    own_rounds c lines (no_quiets lines) rounds
    ∙ ap (λ (qs : List ℕ). events_of c (all_events (own_wires c lines lines) qs (map (own_wires c lines) rounds)))
    (own_no_quiets c lines)
