-- A hub that was just opened on tables, a run of it over a script, and what is printed.
use Rattle.std.proofs.Common.{◌≡◌, ◌<◌, ℕ, zero, suc, List, [], ◌∷◌, ◌++◌, length, map, get_or, take, Option, Some}
use Rattle.std.proofs.Common.{None, ◌⊎◌, inl, inr, refl, sym, ap, subst, ◌∙◌, append-nil, arith}
use Rattle.std.specs.Prelude.{All, IsSomeAnd, slice_get, ⊤}
use Rattle.std.specs.Io.KnownBytes.{Appends, Keeps}
use Rattle.std.proofs.lemmas.List.{ext_get_or, length-map}
use Rattle.std.proofs.lemmas.Option.{slice_get_within, get_or_from_slice_get}
use Rattle.njh_table.specs.declared.LineId.{LineId}
use Rattle.njh_table.specs.declared.fault.TableFault.{TableFault}
use Rattle.njh_table.specs.Entries.{CustomerEntry}
use Rattle.njh_table.specs.Marks.{entry_unmarked}
use Rattle.njh_table.specs.NewRoutes.{new_routes_of, routes_checked}
use Rattle.njh_table.specs.TableFile.{TableFile, NamedCustomer, NamedLine, no_customer, customer_at, entry_of, HasLine}
use Rattle.njh_hub.specs.declared.event.Event.{Event}
use Rattle.njh_hub.specs.declared.event.Event.TheVariants.{Bytes, Tick, Garbled, Lost, Routes, Order}
use Rattle.njh_hub.specs.declared.fault.Cause.{Cause}
use Rattle.njh_hub.specs.declared.fault.Cause.TheVariants as cause
use Rattle.njh_hub.specs.declared.fault.HubFault.{HubFault}
use Rattle.njh_hub.specs.declared.fault.HubFault.TheVariants.{UnknownLine, UnknownCustomer, Memory, NoRoute, BadRoutes}
use Rattle.njh_hub.specs.declared.fault.HubFault.TheVariants.{QueueFull}
use Rattle.njh_hub.specs.OwnEvents.{first_events}
use Rattle.njh_hub.specs.Parts.{entries_of}
use Rattle.njh_hub.specs.WholeHub.{Part, part_at_open}
use Rattle.njh_hub.specs.Laws.{Begins}
use Rattle.njh_hub.proofs.NamedLaws.{hub_run-length}
use Rattle.njh_hub.specs.RunStops.{HandedUntil, IfHub, IsGiven, IsRefused, IsRoutes}
use Rattle.njh_hub.specs.WholeHub as hub
use Rattle.njh_replay.specs.LineNames.{customers_of}
use Rattle.njh_io.specs.Written.{AppendsBeginning}
use Rattle.njh_replay.specs.Printed.{frames_text, IsPrinted}
use Rattle.njh_replay.specs.code.PrintedLaws.{text_of-append}
use Rattle.njh_replay.specs.Replayed.{fault_after, IfHubs, MayStop}
use Rattle.njh_replay.specs.code.RunPieces.{IsFramesShort, IsNoOrder, MayBeFirst}
use Rattle.njh_replay.specs.ScriptRoutes.{IsNamedIn}

get_or-map_default : {X Y : Type 0} (f : X → Y) (xs : List X) (k : ℕ) (d : X)
    → get_or (map f xs) k (f d) ≡ f (get_or xs k d)
get_or-map_default f [] k d = refl
get_or-map_default f (x ∷ xs) zero d = refl
get_or-map_default f (x ∷ xs) (suc k) d = get_or-map_default f xs k d

-- a customer's part is that of its entry
opened_part : (t : TableFile) (c : ℕ) → hub.part c (map part_at_open (entries_of t)) ≡ part_at_open
    (entry_of (customer_at t c))
opened_part t c = get_or-map_default part_at_open (entries_of t) c hub.no_entry
    ∙ ap part_at_open (get_or-map_default entry_of t.customers c no_customer)

-- the hub has the lines of its tables
opened_line : (t : TableFile) (id : LineId) → HasLine t id → hub.HasLine (map part_at_open (entries_of t)) id
opened_line t id known =
    let e = entry_of (customer_at t id.customer) in
    let here : length (hub.part id.customer (map part_at_open (entries_of t))).customer.lines
    ≡ length (part_at_open e).customer.lines =
    ap (λ (p : Part). length p.customer.lines) (opened_part t id.customer) in
    let states : length (part_at_open e).customer.lines ≡ length e.lines = length-map e.lines _ in
    let entries : length e.lines ≡ length (customer_at t id.customer).lines =
    length-map (customer_at t id.customer).lines (λ (l : NamedLine). l.entry) in
    omega (arith, known, here, states, entries)

-- and what an event names in the tables, it names in the hub
opened_named : (t : TableFile) (event : Event) → IsNamedIn t event → hub.IsNamed (map part_at_open (entries_of t)) event
opened_named t (Bytes id piece) named = opened_line t id named
opened_named t (Tick id) named = opened_line t id named
opened_named t (Garbled id) named = opened_line t id named
opened_named t (Lost id) named = opened_line t id named
opened_named t (Order c order) named =
    let parts : length (map part_at_open (entries_of t)) ≡ length t.customers =
    length-map (entries_of t) part_at_open ∙ length-map t.customers entry_of in
    omega (arith, named, parts)
opened_named t (Routes c routes) named =
    let parts : length (map part_at_open (entries_of t)) ≡ length t.customers =
    length-map (entries_of t) part_at_open ∙ length-map t.customers entry_of in
    let within : c < length (map part_at_open (entries_of t)) = omega (arith, named.0, parts) in
    let entry : (hub.part c (map part_at_open (entries_of t))).customer.entry ≡ entry_unmarked
    (entry_of (customer_at t c)) =
    ap (λ (p : Part). p.customer.entry) (opened_part t c) in
    (within, ap (λ (e : CustomerEntry). routes_checked e (new_routes_of c routes)) entry ∙ named.1)

-- so do all events of a script
pub all_named : (t : TableFile) (parts : List Part) (events : List Event) → parts ≡ map part_at_open (entries_of t)
    → All (IsNamedIn t) events → All (hub.IsNamed parts) events
all_named t parts events fresh named = λ k event within.
    let here = opened_named t (get_or events k event) (named k event within) in
    subst (λ (ps : List Part). hub.IsNamed ps (get_or events k event)) (sym fresh) here

IsSomeAnd-never : {X : Type 0} (o : Option X) (P : X → Type 0) → ((x : X) → o ≡ Some x → P x → ⊥) → IsSomeAnd o P → ⊥
IsSomeAnd-never None P never some = some
IsSomeAnd-never (Some x) P never some = never x refl some

-- an event that is no order and names what is there is refused for want of memory alone
not_unknown : (parts : List Part) (event : Event) → hub.IsNamed parts event → IsRefused parts event UnknownLine → ⊥
not_unknown parts (Bytes id piece) named refused = refused named
not_unknown parts (Tick id) named refused = refused named
not_unknown parts (Garbled id) named refused = refused named
not_unknown parts (Lost id) named refused = refused named
not_unknown parts (Routes c routes) named refused = refused
not_unknown parts (Order c order) named refused = refused

not_foreign : (parts : List Part) (event : Event) → hub.IsNamed parts event → IsRefused parts event UnknownCustomer → ⊥
not_foreign parts (Bytes id piece) named refused = refused
not_foreign parts (Tick id) named refused = refused
not_foreign parts (Garbled id) named refused = refused
not_foreign parts (Lost id) named refused = refused
not_foreign parts (Routes c routes) named refused = refused named.0
not_foreign parts (Order c order) named refused = refused named

not_bad : (parts : List Part) (event : Event) (fault : TableFault) → hub.IsNamed parts event
    → IsRefused parts event (BadRoutes fault) → ⊥
not_bad parts (Bytes id piece) fault named refused = refused
not_bad parts (Tick id) fault named refused = refused
not_bad parts (Garbled id) fault named refused = refused
not_bad parts (Lost id) fault named refused = refused
not_bad parts (Routes c routes) fault named refused = cc (sym named.1 ∙ refused.1)
not_bad parts (Order c order) fault named refused = refused

-- an event that is no order isn't refused as a message is
no_message : (parts : List Part) (event : Event) → IsNoOrder event → IsRefused parts event NoRoute → ⊥
no_message parts (Bytes id piece) no_order refused = refused
no_message parts (Tick id) no_order refused = refused
no_message parts (Garbled id) no_order refused = refused
no_message parts (Lost id) no_order refused = refused
no_message parts (Routes c routes) no_order refused = refused
no_message parts (Order c order) no_order refused = cc no_order

-- what stops a run of events none of which is an order: the sink, or that memory ran out
abbrev pub IsSinkOrMemory : Cause → Type 0
IsSinkOrMemory (cause.Hub fault) = fault ≡ Memory
IsSinkOrMemory cause.Sink = ⊤

module _ (parts : List Part) (events : List Event) (k : ℕ) (named : All (hub.IsNamed parts) events)
    (without : All IsNoOrder events) where
  never : (why : HubFault)
      → ((event : Event) → hub.IsNamed parts event → IsNoOrder event → IsRefused parts event why → ⊥)
      → IsSomeAnd (slice_get events k) (λ event. IsRefused parts event why) → ⊥
  never why not refused =
      IsSomeAnd-never (slice_get events k) (λ event. IsRefused parts event why) (λ event at is.
      let within = slice_get_within events k event at in
      let here = get_or_from_slice_get events k event event at in
      let there : hub.IsNamed parts event = subst (hub.IsNamed parts) here (named k event within) in
      let plain : IsNoOrder event = subst IsNoOrder here (without k event within) in
      not event there plain is) refused

  pub sink_or_memory : (why : Cause) → IfHub why
      (λ why. IsSomeAnd (slice_get events k) (λ event. IsRefused parts event why))
      → IsSinkOrMemory why
  sink_or_memory (cause.Hub UnknownLine) refused =
      absurd (never UnknownLine (λ event named plain. not_unknown parts event named) refused)
  sink_or_memory (cause.Hub UnknownCustomer) refused =
      absurd (never UnknownCustomer (λ event named plain. not_foreign parts event named) refused)
  sink_or_memory (cause.Hub Memory) refused = refl
  sink_or_memory (cause.Hub NoRoute) refused =
      absurd (never NoRoute (λ event named plain. no_message parts event plain) refused)
  sink_or_memory (cause.Hub QueueFull) refused =
      absurd (never QueueFull (λ event named plain. no_message parts event plain) refused)
  sink_or_memory (cause.Hub (BadRoutes fault)) refused =
      absurd (never (BadRoutes fault) (λ event named plain. not_bad parts event fault named) refused)
  sink_or_memory cause.Sink refused = tt

pub MayStop-stopped : (why : Cause) → IsSinkOrMemory why → MayStop (fault_after why)
MayStop-stopped (cause.Hub fault) memory = (inl memory, λ refusal. refusal)
MayStop-stopped cause.Sink so = (tt, λ refusal. refusal)

-- new routes and orders send nothing
given_silent : (parts : List Part) (event : Event) → IsGiven event → (hub.hub_event parts event).sent ≡ []
given_silent parts (Bytes id piece) given = absurd (cc given)
given_silent parts (Tick id) given = absurd (cc given)
given_silent parts (Garbled id) given = absurd (cc given)
given_silent parts (Lost id) given = absurd (cc given)
given_silent parts (Routes c routes) given = refl
given_silent parts (Order c order) given = refl

pub all_silent : (parts : List Part) (events : List Event) → All IsGiven events → (hub.hub_run parts events).sent ≡ []
all_silent parts [] all = refl
all_silent parts (event ∷ events) all =
    let later = hub.hub_run (hub.hub_event parts event).parts events in
    ap (λ sent. sent ++ later.sent) (given_silent parts event (all 0 event (omega arith)))
    ∙ all_silent (hub.hub_event parts event).parts events (λ k d within. all (suc k) d (omega (arith, within)))

-- A run that stopped printed a beginning of the text of all frames: the frames of what happened, or all but the last
-- and that in part.
pub stopped_begun : {S : Type 0} (took : S → S → List (LineId × List ℕ) → Type 0)
    (refused : S → S → LineId × List ℕ → Type 0) (why : Cause)
    (before after : S) (sent whole : List (LineId × List ℕ)) (P : Type 0)
    → HandedUntil took refused why before after sent → Begins sent whole
    → ((front more : List (LineId × List ℕ)) → took before after front → front ++ more ≡ whole → P)
    → ((front : List (LineId × List ℕ)) (last : LineId × List ℕ) (between : S) (more : List (LineId × List ℕ))
    → took before between front → refused between after last
    → (front ++ last ∷ []) ++ more ≡ whole → P) → P
stopped_begun took refused (cause.Hub fault) before after sent whole P handed begins all part =
    all sent begins.0 handed begins.1
stopped_begun took refused cause.Sink before after sent whole P handed begins all part =
    part handed.front handed.last handed.between begins.0 handed.took_front handed.refused_last
    (ap (λ (s : List (LineId × List ℕ)). s ++ begins.0) (sym handed.are) ∙ begins.1)

pub printed_begins : (names later : List (List (List ℕ))) (a b : Option (List ℕ))
    (front more whole : List (LineId × List ℕ)) → IsPrinted names later a b front
    → front ++ more ≡ whole → AppendsBeginning a b (frames_text names whole)
printed_begins names later a b front more whole printed all = (
  frames_text names front,
  frames_text names more,
  sym (text_of-append names front more)
      ∙ ap (frames_text names) all,
  printed.1,
)

pub Keeps-none : (a b : Option (List ℕ)) → Appends a b [] → Keeps a b
Keeps-none None b written = tt
Keeps-none (Some x) None written = absurd written
Keeps-none (Some x) (Some y) written = written ∙ append-nil x

-- the events before one, that one and those behind it
pub parted_at : (events : List Event) (k : ℕ) (P : Event → Type 0) → IsSomeAnd (slice_get events k) P
    → (stop : Event) × (behind : List Event) × (events ≡ take k events ++ stop ∷ behind) × P stop
parted_at [] k P some = absurd some
parted_at (event ∷ events) zero P some = (event, events, refl, some)
parted_at (event ∷ events) (suc k) P some =
    let later = parted_at events k P some in
    (later.0, later.1, ap (λ (es : List Event). event ∷ es) later.2, later.3)

IsSomeAnd-any : {X : Type 0} (o : Option X) (P Q : X → Type 0) → IsSomeAnd o P → ((x : X) → Q x) → IsSomeAnd o Q
IsSomeAnd-any None P Q some any = some
IsSomeAnd-any (Some x) P Q some any = any x

IsSomeAnd-then : {X : Type 0} (o : Option X) (P Q : X → Type 0) → ((x : X) → P x → Q x) → IsSomeAnd o P → IsSomeAnd o Q
IsSomeAnd-then None P Q then some = some
IsSomeAnd-then (Some x) P Q then some = then x some

-- the event at which memory ran out gives routes, or nothing before it came on a line
wants_memory : (parts : List Part) (events : List Event) (k : ℕ)
    → IsSomeAnd (slice_get events k) (λ event. IsRefused parts event Memory)
    → (IsSomeAnd (slice_get events k) IsRoutes ⊎ All IsGiven (take k events))
    → IsSomeAnd (slice_get events k) (MayBeFirst (take k events))
wants_memory parts events k refused which = elim which [
  | inl routes ↦ IsSomeAnd-then (slice_get events k) IsRoutes (MayBeFirst (take k events)) (λ event is. inl is) routes
  | inr before ↦ IsSomeAnd-any (slice_get events k) _ (MayBeFirst (take k events)) refused (λ event. inr before)
]

-- so the frames of the events before it were printed
pub stopped_at_want : (names : List (List (List ℕ))) (parts : List Part) (events : List Event) (k n : ℕ)
    (a b : Option (List ℕ)) → n ≡ 0
    → IsSomeAnd (slice_get events k) (λ event. IsRefused parts event Memory)
    → (IsSomeAnd (slice_get events k) IsRoutes ⊎ All IsGiven (take k events))
    → Appends a b (frames_text names (hub.hub_run parts (first_events events k n)).sent)
    → IsFramesShort names parts events Memory a b
stopped_at_want names parts events k n a b none refused which printed =
    let whole : first_events events k n ≡ take k events =
    ap (λ (m : ℕ). first_events events k m) none ∙ append-nil (take k events) in
    let at = parted_at events k (MayBeFirst (take k events)) (wants_memory parts events k refused which) in
    record {
      before = take k events;
      stop = at.0;
      behind = at.1;
      are = at.2;
      stops = at.3;
      sent = subst (λ (es : List Event). Appends a b (frames_text names (hub.hub_run parts es).sent)) whole printed;
    }

-- what is written where a run of events none of which is an order was stopped by the hub
pub stopped_short : {S : Type 0} (took : S → S → List (LineId × List ℕ) → Type 0)
    (refused : S → S → LineId × List ℕ → Type 0) (names : List (List (List ℕ))) (parts : List Part)
    (events : List Event) (k n : ℕ) (why : Cause) (before after : S) (a b : Option (List ℕ)) → IsSinkOrMemory why
    → HandedUntil took refused why before after (hub.hub_run parts (first_events events k n)).sent
    → IfHub why (λ w. IsSomeAnd (slice_get events k) (λ event. IsRefused parts event w))
    → (why ≡ cause.Hub Memory
    → (n ≡ 0) × (IsSomeAnd (slice_get events k) IsRoutes ⊎ All IsGiven (take k events)))
    → (took before after (hub.hub_run parts (first_events events k n)).sent
    → Appends a b (frames_text names (hub.hub_run parts (first_events events k n)).sent))
    → IfHubs (fault_after why) (λ w. IsFramesShort names parts events w a b)
stopped_short took refused names parts events k n (cause.Hub fault) before after a b memory handed causes at printed =
    let which = at (ap (λ (f : HubFault). cause.Hub f) memory) in
    let none : IsSomeAnd (slice_get events k) (λ event. IsRefused parts event Memory) =
    subst (λ w. IsSomeAnd (slice_get events k) (λ event. IsRefused parts event w)) memory causes in
    subst (λ w. IsFramesShort names parts events w a b) (sym memory)
    (stopped_at_want names parts events k n a b which.0 none which.1 (printed handed))
stopped_short took refused names parts events k n cause.Sink before after a b so handed causes at printed = tt

-- the hub is what a run leads to
pub led_to : (start after : List Part) (events : List Event) → length after ≡ length start
    → ((c : ℕ) → c < length start → hub.part c after ≡ hub.part c (hub.hub_run start events).parts)
    → after ≡ (hub.hub_run start events).parts
led_to start after events many each =
    ext_get_or hub.no_part after (hub.hub_run start events).parts (many ∙ sym (hub_run-length start events))
    (λ c there. each c (omega (arith, there, many)))

-- it has as many customers as its tables
pub opened_customers : (t : TableFile) (parts : List Part) (customers : List (List ℕ))
    → parts ≡ map part_at_open (entries_of t)
    → customers ≡ customers_of t → length customers ≡ length parts
opened_customers t parts customers fresh called =
    ap (λ (xs : List (List ℕ)). length xs) called ∙ length-map t.customers (λ (c : NamedCustomer). c.name)
    ∙ sym (ap (λ (ps : List Part). length ps) fresh ∙ length-map (entries_of t) part_at_open
    ∙ length-map t.customers entry_of)
