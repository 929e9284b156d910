-- Runs of a whole hub, seen by one customer.
use Rattle.std.proofs.Common.{◌≡◌, ◌≢◌, ℕ, ◌<◌, Bool, true, false, cond, eqb, List, [], ◌∷◌, ◌++◌, length, map, set}
use Rattle.std.proofs.Common.{refl, ap, ap₂, sym, ◌∙◌, ⊎_elim, arith}
use Rattle.std.proofs.lemmas.List.{get_or-set_same, get_or-set_other, length-map, length-set}
use Rattle.std.proofs.lemmas.Bool.Decides.{eqb_tells}
use Rattle.std.proofs.Math.ListN.{get_or-map}
use Rattle.njh_table.specs.Entries.{CustomerEntry}
use Rattle.njh_table.specs.declared.LineId.{LineId}
use Rattle.njh_hub.specs.declared.event.Event.{Event}
use Rattle.njh_customer.specs.Runs.{OwnEvent, Run, event_run, alone_run}
use Rattle.njh_hub.specs.OwnEvents.{customer_of_event, own, events_of, sent_to}
use Rattle.njh_hub.specs.WholeHub.{Part, part_at_open, no_entry, no_part, part, sent_by, own_event, hub_run}
use Rattle.njh_hub.specs.Files.{files_of}
use Rattle.njh_hub.specs.Laws.{IsAlone, EachIsAlone, TwoListsAreLike, CustomersNeverMeet, OthersStay, OwnStepIsOwn}
use Rattle.njh_hub.specs.Outcome.{Outcome, entry_at}

-- a pair is sent to c or not, before more
cond-append : {A : Type 0} (b : Bool) (x : A) (xs ys zs : List A) → xs ≡ ys ++ zs
    → cond b (x ∷ xs) xs ≡ cond b (x ∷ ys) ys ++ zs
cond-append true x xs ys zs e = ap (λ s. x ∷ s) e
cond-append false x xs ys zs e = e

pub sent_to-append : (c : ℕ) (xs ys : List (LineId × List ℕ)) → sent_to c (xs ++ ys) ≡ sent_to c xs ++ sent_to c ys
sent_to-append c [] ys = refl
sent_to-append c (x ∷ xs) ys = cond-append (eqb x.0.customer c) (x.0.number, x.1) (sent_to c (xs ++ ys)) (sent_to c xs)
    (sent_to c ys) (sent_to-append c xs ys)

pub sent_to-sent_by_same : (c d : ℕ) → eqb d c ≡ true → (xs : List (ℕ × List ℕ)) → sent_to c (sent_by d xs) ≡ xs
sent_to-sent_by_same c d same [] = refl
sent_to-sent_by_same c d same (x ∷ xs) = rw same
    (ap (λ (s : List (ℕ × List ℕ)). x ∷ s) (sent_to-sent_by_same c d same xs))

pub sent_to-sent_by_other : (c d : ℕ) → eqb d c ≡ false → (xs : List (ℕ × List ℕ)) → sent_to c (sent_by d xs) ≡ []
sent_to-sent_by_other c d other [] = refl
sent_to-sent_by_other c d other (x ∷ xs) = rw other (sent_to-sent_by_other c d other xs)

-- an event of customer c, and then what is so of the events after it
own_event-then : (c d : ℕ) (parts : List Part) (event : OwnEvent) (events : List Event) →
    eqb d c ≡ true → d ≡ c → c < length parts → IsAlone c (own_event parts d event).parts events →
    (part c (hub_run (own_event parts d event).parts events).parts
    ≡ (alone_run (part c parts) (event ∷ events_of c events)).after)
    × (sent_to c ((own_event parts d event).sent ++ (hub_run (own_event parts d event).parts events).sent)
    ≡ (alone_run (part c parts) (event ∷ events_of c events)).sent)
own_event-then c d parts event events same e within later =
    let own_part : event_run (part d parts) event ≡ event_run (part c parts) event =
    ap (λ (n : ℕ). event_run (part n parts) event) e in
    let x = event_run (part c parts) event in
    let moved : part c (own_event parts d event).parts ≡ x.after =
    ap (λ (n : ℕ). part c (set parts n (event_run (part n parts) event).after)) e
    ∙ get_or-set_same parts c x.after no_part within in (
      later.after ∙ ap (λ (p : Part). (alone_run p (events_of c events)).after) moved,
      sent_to-append c (sent_by d (event_run (part d parts) event).sent)
          (hub_run (own_event parts d event).parts events).sent
          ∙ ap (λ (s : List (ℕ × List ℕ)). s ++ sent_to c (hub_run (own_event parts d event).parts events).sent)
          (sent_to-sent_by_same c d same (event_run (part d parts) event).sent ∙ ap (λ (r : Run). r.sent) own_part)
          ∙ ap (λ (s : List (ℕ × List ℕ)). x.sent ++ s)
          (later.sent ∙ ap (λ (p : Part). (alone_run p (events_of c events)).sent) moved),
    )

-- an event of another customer, and then what is so of the events after it
other_event-then : (c d : ℕ) (parts : List Part) (event : OwnEvent) (events : List Event) →
    eqb d c ≡ false → c ≢ d → IsAlone c (own_event parts d event).parts events →
    (part c (hub_run (own_event parts d event).parts events).parts
    ≡ (alone_run (part c parts) (events_of c events)).after)
    × (sent_to c ((own_event parts d event).sent ++ (hub_run (own_event parts d event).parts events).sent)
    ≡ (alone_run (part c parts) (events_of c events)).sent)
other_event-then c d parts event events other apart later =
    let x = event_run (part d parts) event in
    let stays : part c (own_event parts d event).parts ≡ part c parts =
    get_or-set_other parts d c x.after no_part apart in (
      later.after ∙ ap (λ (p : Part). (alone_run p (events_of c events)).after) stays,
      sent_to-append c (sent_by d x.sent) (hub_run (own_event parts d event).parts events).sent
          ∙ ap (λ (s : List (ℕ × List ℕ)). s ++ sent_to c (hub_run (own_event parts d event).parts events).sent)
          (sent_to-sent_by_other c d other x.sent)
          ∙ later.sent ∙ ap (λ (p : Part). (alone_run p (events_of c events)).sent) stays,
    )

pub each_is_alone : EachIsAlone
each_is_alone c parts [] within = record { after = refl; sent = refl }
each_is_alone c parts (event ∷ events) within =
    let d = customer_of_event event in
    let x = event_run (part d parts) (own event) in
    let later = each_is_alone c (set parts d x.after) events (omega (arith, length-set parts d x.after)) in
    ⊎_elim (λ (w : (eqb d c ≡ true) × (d ≡ c)).
    let t = own_event-then c d parts (own event) events w.0 w.1 within later in record
    { after = rw w.0 t.0; sent = rw w.0 t.1 })
    (λ (w : (eqb d c ≡ false) × (d ≢ c)).
    let t = other_event-then c d parts (own event) events w.0 (λ e. w.1 (sym e)) later in
    record { after = rw w.0 t.0; sent = rw w.0 t.1 })
    (eqb_tells d c)

pub two_lists_are_like : TwoListsAreLike
two_lists_are_like c d parts others events more within there alike same =
    let one = each_is_alone c parts events within in
    let two = each_is_alone d others more there in
    let runs : alone_run (part c parts) (events_of c events) ≡ alone_run (part d others) (events_of d more) =
    ap (λ (p : Part). alone_run p (events_of c events)) alike ∙ ap (alone_run (part d others)) same in
    record {
      after = one.after ∙ ap (λ (r : Run). r.after) runs ∙ sym two.after;
      sent = one.sent ∙ ap (λ (r : Run). r.sent) runs ∙ sym two.sent;
    }

-- frames and a part make an outcome
abbrev outcome : List (ℕ × List ℕ) → Part → Outcome
outcome sent p = record { sent = sent; files = files_of p.customer.spool }

part-opened : (c : ℕ) (entries : List CustomerEntry)
    → part c (map part_at_open entries) ≡ part_at_open (entry_at c entries)
part-opened c entries = get_or-map part_at_open entries c no_entry

pub customers_never_meet : CustomersNeverMeet
customers_never_meet c d entries others events more within there agree same =
    let here : c < length (map part_at_open entries) = omega (arith, within, length-map entries part_at_open) in
    let like = two_lists_are_like c d (map part_at_open entries) (map part_at_open others) events more here
    (omega (arith, there, length-map others part_at_open))
    (part-opened c entries ∙ ap part_at_open agree ∙ sym (part-opened d others)) same in
    let one = each_is_alone c (map part_at_open entries) events here in
    let runs : alone_run (part c (map part_at_open entries)) (events_of c events)
    ≡ alone_run (part_at_open (entry_at c entries)) (events_of c events) =
    ap (λ (p : Part). alone_run p (events_of c events)) (part-opened c entries) in (
      ap₂ outcome like.sent like.after,
      ap₂ outcome (one.sent ∙ ap (λ (r : Run). r.sent) runs) (one.after ∙ ap (λ (r : Run). r.after) runs),
    )

pub others_stay : OthersStay
others_stay c parts event apart =
    let d = customer_of_event event in
    get_or-set_other parts d c (event_run (part d parts) (own event)).after no_part apart

pub own_step_is_own : OwnStepIsOwn
own_step_is_own parts event there =
    let d = customer_of_event event in
    get_or-set_same parts d (event_run (part d parts) (own event)).after no_part there
