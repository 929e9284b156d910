use Rattle.std.proofs.Common.{◌≡◌, ℕ, ◌+◌, ◌<◌, List, [], ◌∷◌, ◌++◌, length, take, Option, Some, ap, sym, subst, ◌∙◌}
use Rattle.std.proofs.Common.{arith, ◌≤◌, ⊎_elim, inl, inr}
use Rattle.std.specs.Prelude.{IsSomeAnd, slice_get, All, IsSome}
use Rattle.std.specs.Vec.{vec_capacity}
use Rattle.njh_bisync.specs.Limits.{longest_frame}
use Rattle.std.proofs.lemmas.List.{take_all, take_more, length-append}
use Rattle.njh_customer.specs.Runs.{alone_run}
use Rattle.njh_hub.specs.declared.event.Event.{Event}
use Rattle.njh_hub.specs.declared.fault.RunFault.{RunFault}
use Rattle.njh_hub.specs.OwnEvents.{line_of_event, events_of, bytes_in_event, first_events}
use Rattle.njh_hub.specs.RunStops.{HandedUntil, IfHub, IsGiven, IsRefused, IsRoutes}
use Rattle.njh_hub.specs.WholeHub.{Part, part, AreTaken, HubRun, IsNamed, IsTaken, IsTurnedAway, hub_run}
use Rattle.njh_hub.proofs.RunLaws.{each_is_alone}
use Rattle.njh_hub.proofs.RunningLaws.{stopped_in, went_on, HandedUntil-after, HandedUntil-some}
use Rattle.njh_hub.proofs.NamedLaws.{All-more, LedOn, behind-known, either_event, found_at, hub_run-length, led_on}
use Rattle.njh_hub.proofs.NamedLaws.{are_taken_more, named-before, refused_at, turned_away_at}
use Rattle.njh_hub.proofs.StopLaws.{stop_later}
use Rattle.njh_hub.proofs.hub.Hub.run.Goals as goal

pub returns-in-Err-clause-parts : goal.returns-in-Err-clause-parts
returns-in-Err-clause-parts g c = λ d there.
    let start = c.args.self.now in
    let events = c.args.events.now in
    let k = c.loop-index.index in
    let fault = c.in-Err.fault in
    let event = c.index-events-index.result in
    let within : k < length events = omega arith in
    let stop = stopped_in start c.loop-index.self events k fault.events fault.bytes event within
    c.index-events-index.is c.in-Err.ensures.run.one.1 c.loop-index.invariant.parts in
    ap (part d) (c.in-Err.ensures.run.leads ∙ ap (λ (h : HubRun). h.parts) (sym stop))
    ∙ (each_is_alone d start (first_events events (k + fault.events) fault.bytes) there).after
    ∙ ap (λ (f : RunFault). (alone_run (part d start) (events_of d (first_events events f.events f.bytes))).after)
    (sym c.after.ensures)

pub returns-in-Err-clause-handed : goal.returns-in-Err-clause-handed
returns-in-Err-clause-handed g c =
    let start = c.args.self.now in
    let events = c.args.events.now in
    let k = c.loop-index.index in
    let fault = c.in-Err.fault in
    let event = c.index-events-index.result in
    let within : k < length events = omega arith in
    let stop = stopped_in start c.loop-index.self events k fault.events fault.bytes event within
    c.index-events-index.is c.in-Err.ensures.run.one.1 c.loop-index.invariant.parts in
    let sent = (hub_run start (take k events)).sent in
    let more = (hub_run c.loop-index.self (first_events (event ∷ []) fault.events fault.bytes)).sent in
    let handed = HandedUntil-after g.S.Sink.took g.S.Sink.refused fault.cause c.args.sink.now c.loop-index.sink
    c.run_event.new.sink sent more
    g.met.S.Sink.more c.loop-index.invariant.sent c.in-Err.ensures.run.handed in
    let P : HubRun → Type 0 = λ h. HandedUntil g.S.Sink.took g.S.Sink.refused fault.cause c.args.sink.now
    c.run_event.new.sink h.sent in
    let Q : RunFault → Type 0 = λ f. HandedUntil g.S.Sink.took g.S.Sink.refused f.cause c.args.sink.now
    c.run_event.new.sink
    (hub_run start (first_events events f.events f.bytes)).sent in
    subst Q (sym c.after.ensures) (subst P (sym stop) handed)

pub returns-in-Err-clause-refused : goal.returns-in-Err-clause-refused
returns-in-Err-clause-refused g c = λ refused.
    let start = c.args.self.now in
    let events = c.args.events.now in
    let k = c.loop-index.index in
    let fault = c.in-Err.fault in
    let event = c.index-events-index.result in
    let within : k < length events = omega arith in
    let stop = stopped_in start c.loop-index.self events k fault.events fault.bytes event within
    c.index-events-index.is c.in-Err.ensures.run.one.1 c.loop-index.invariant.parts in
    let sent = (hub_run start (take k events)).sent in
    let more = (hub_run c.loop-index.self (first_events (event ∷ []) fault.events fault.bytes)).sent in
    let some : 0 < length more = HandedUntil-some g.S.Sink.took g.S.Sink.refused fault.cause c.loop-index.sink
    c.run_event.new.sink more
    (sym (ap (λ (f : RunFault). f.cause) c.after.ensures) ∙ refused) c.in-Err.ensures.run.handed in
    let same : length (hub_run start (first_events events c.after.result.events c.after.result.bytes)).sent
    ≡ length (sent ++ more) =
    ap (λ (f : RunFault). length (hub_run start (first_events events f.events f.bytes)).sent) c.after.ensures
    ∙ ap (λ (h : HubRun). length h.sent) stop in
    omega (arith, same, length-append sent more, some)

pub returns-in-Err-clause-customers : goal.returns-in-Err-clause-customers
returns-in-Err-clause-customers g c =
    let start = c.args.self.now in
    let k = c.loop-index.index in
    let now = c.loop-index.self in
    let here : length now ≡ length start = ap (λ (ps : List Part). length ps) c.loop-index.invariant.parts
    ∙ hub_run-length start (take k c.args.events.now) in
    ap (λ (ps : List Part). length ps) c.in-Err.ensures.run.leads
    ∙ hub_run-length now (first_events (c.index-events-index.result ∷ []) c.in-Err.fault.events c.in-Err.fault.bytes)
    ∙ here

pub returns-in-Err-clause-before : goal.returns-in-Err-clause-before
returns-in-Err-clause-before g c =
    let start = c.args.self.now in
    let events = c.args.events.now in
    let k = c.loop-index.index in
    let event = c.index-events-index.result in
    let within : k < length events = omega arith in
    let P : RunFault → Type 0 = λ f. All (IsNamed start) (take f.events events) in
    let on : LedOn start c.loop-index.self =
    led_on start c.loop-index.self (take k events)
    c.loop-index.invariant.parts c.loop-index.invariant.same in
    let behind : c.in-Err.fault.events ≡ 1 → IsNamed start event = λ one. named-before start c.loop-index.self on event
    (c.in-Err.ensures.run.behind one) in
    subst P (sym c.after.ensures) (behind-known start events k c.in-Err.fault.events c.in-Err.fault.bytes event within
    c.index-events-index.is c.in-Err.ensures.run.one.1 behind c.loop-index.invariant.known)

pub returns-in-Err-clause-within : goal.returns-in-Err-clause-within
returns-in-Err-clause-within g c = λ some.
    let events = c.args.events.now in
    let k = c.loop-index.index in
    let fault = c.in-Err.fault in
    let event = c.index-events-index.result in
    let within : k < length events = omega arith in
    let bytes : c.after.result.bytes ≡ fault.bytes = ap (λ (f : RunFault). f.bytes) c.after.ensures in
    let one = c.in-Err.ensures.run.one.0 (omega (arith, bytes, some)) in
    let at : slice_get events c.after.result.events ≡ Some event =
    ap (λ (f : RunFault). slice_get events f.events) c.after.ensures
    ∙ found_at events k fault.events event within c.index-events-index.is one.0 in
    let P : Option Event → Type 0 = λ o. IsSomeAnd o (λ e. c.after.result.bytes < bytes_in_event e) in
    let here : c.after.result.bytes < bytes_in_event event = omega (arith, bytes, one.1) in
    subst P (sym at) here

pub returns-in-Err-clause-causes : goal.returns-in-Err-clause-causes
returns-in-Err-clause-causes g c =
    let start = c.args.self.now in
    let events = c.args.events.now in
    let k = c.loop-index.index in
    let fault = c.in-Err.fault in
    let event = c.index-events-index.result in
    let within : k < length events = omega arith in
    let on : LedOn start c.loop-index.self =
    led_on start c.loop-index.self (take k events)
    c.loop-index.invariant.parts c.loop-index.invariant.same in
    let P : RunFault → Type 0 = λ f. IfHub f.cause
    (λ why. IsSomeAnd (slice_get events f.events) (λ e. IsRefused start e why)) in
    subst P (sym c.after.ensures) (refused_at start c.loop-index.self on events k fault.events event within
    c.index-events-index.is
    fault.cause c.in-Err.ensures.run.causes)

pub returns-in-Err-clause-memory : goal.returns-in-Err-clause-memory
returns-in-Err-clause-memory g c = λ memory.
    let events = c.args.events.now in
    let k = c.loop-index.index in
    let fault = c.in-Err.fault in
    let event = c.index-events-index.result in
    let within : k < length events = omega arith in
    let told = c.in-Err.ensures.run.memory (sym (ap (λ (f : RunFault). f.cause) c.after.ensures) ∙ memory) in
    let at : slice_get events c.after.result.events ≡ Some event =
    ap (λ (f : RunFault). slice_get events f.events) c.after.ensures
    ∙ found_at events k fault.events event within c.index-events-index.is told.0 in
    let P : Option Event → Type 0 = λ o. IsSomeAnd o IsRoutes in
    let Q : ℕ → Type 0 = λ n. All IsGiven (take n events) in
    let here : k ≡ c.after.result.events = omega (arith, ap (λ (f : RunFault). f.events) c.after.ensures, told.0) in (
      ap (λ (f : RunFault). f.bytes) c.after.ensures ∙ told.1,
      ⊎_elim (λ (routes : IsRoutes event). inl (subst P (sym at) routes))
          (λ (less : vec_capacity c.loop-index.out < longest_frame). ⊎_elim
          (λ (all : Q k). inr (subst Q here all))
          (λ (enough : longest_frame ≤ vec_capacity c.loop-index.out). absurd (omega arith))
          c.loop-index.invariant.room) told.2,
    )

pub returns-in-Err-clause-turned_away : goal.returns-in-Err-clause-turned_away
returns-in-Err-clause-turned_away g c =
    let start = c.args.self.now in
    let events = c.args.events.now in
    let k = c.loop-index.index in
    let fault = c.in-Err.fault in
    let event = c.index-events-index.result in
    let within : k < length events = omega arith in
    let P : RunFault → Type 0 = λ f. IfHub f.cause (λ why. IsSomeAnd (slice_get events f.events)
    (λ e. IsTurnedAway (hub_run start (take f.events events)).parts e why)) in
    subst P (sym c.after.ensures) (turned_away_at start c.loop-index.self events k fault.events event
    c.loop-index.invariant.parts within c.index-events-index.is fault.cause c.in-Err.ensures.run.causes
    c.in-Err.ensures.order)

pub returns-in-Err-clause-begun : goal.returns-in-Err-clause-begun
returns-in-Err-clause-begun g c =
    let P : RunFault → Type 0 = λ f. IfHub f.cause (λ why. f.bytes ≡ 0) in
    subst P (sym c.after.ensures) c.in-Err.ensures.run.begun

pub returns-in-Err-clause-behind : goal.returns-in-Err-clause-behind
returns-in-Err-clause-behind g c = λ sink.
    let events = c.args.events.now in
    let k = c.loop-index.index in
    let within : k < length events = omega arith in
    stop_later c.args.self.now c.loop-index.self events k c.index-events-index.result c.in-Err.fault c.after.result
    within
    c.index-events-index.is c.loop-index.invariant.parts c.after.ensures
    (c.in-Err.ensures.run.behind_frame (sym (ap (λ (f : RunFault). f.cause) c.after.ensures) ∙ sink))

pub loop-index-preserved : goal.loop-index-preserved
loop-index-preserved g c =
    let start = c.args.self.now in
    let events = c.args.events.now in
    let k = c.loop-index.index in
    let event = c.index-events-index.result in
    let within : k < length events = omega arith in
    let on = went_on start c.loop-index.self events k event within c.index-events-index.is c.loop-index.invariant.parts
    in
    let led : LedOn start c.loop-index.self =
    led_on start c.loop-index.self (take k events)
    c.loop-index.invariant.parts c.loop-index.invariant.same in
    let known : IsNamed start event = named-before start c.loop-index.self led event c.in-Ok.ensures.run.known in
    let P : HubRun → Type 0 = λ h. g.S.Sink.took c.args.sink.now c.run_event.new.sink h.sent in
    record {
      parts = c.in-Ok.ensures.run.leads ∙ ap (λ (h : HubRun). h.parts) (sym on);
      sent = subst P (sym on) (g.met.S.Sink.more _ _ _ _ _ c.loop-index.invariant.sent c.in-Ok.ensures.run.handed);
      known = All-more (IsNamed start) events k event within c.index-events-index.is c.loop-index.invariant.known known;
      same = λ d. c.in-Ok.ensures.run.lines d ∙ c.loop-index.invariant.same d;
      room = ⊎_elim (λ (line : IsSome (line_of_event event)). inr (c.in-Ok.ensures.run.room (inl line)))
          (λ (given : IsGiven event). ⊎_elim
          (λ (all : All IsGiven (take k events)). inl
          (All-more IsGiven events k event within c.index-events-index.is all given))
          (λ (enough : longest_frame ≤ vec_capacity c.loop-index.out). inr (c.in-Ok.ensures.run.room (inr enough)))
          c.loop-index.invariant.room)
          (either_event event);
      counts = omega (arith, c.in-Ok.ensures.run.counts);
      orders = subst (AreTaken start)
          (sym (take_more events k event within
          ∙ ap (λ (x : Event). take k events ++ x ∷ []) (sym c.index-events-index.is)))
          (are_taken_more start (take k events) event c.loop-index.invariant.orders
          (subst (λ (ps : List Part). IsTaken ps event) c.loop-index.invariant.parts c.in-Ok.ensures.order));
    }

pub returns-clause-parts : goal.returns-clause-parts
returns-clause-parts g c = λ d there.
    let start = c.args.self.now in
    let all : take c.loop-index.index c.args.events.now ≡ c.args.events.now =
    take_all _ c.args.events.now (omega arith) in
    ap (part d) (c.loop-index.invariant.parts ∙ ap (λ (es : List Event). (hub_run start es).parts) all)
    ∙ (each_is_alone d start c.args.events.now there).after

pub returns-clause-customers : goal.returns-clause-customers
returns-clause-customers g c = ap (λ (ps : List Part). length ps) c.loop-index.invariant.parts
    ∙ hub_run-length c.args.self.now (take c.loop-index.index c.args.events.now)

pub returns-clause-handed : goal.returns-clause-handed
returns-clause-handed g c =
    let start = c.args.self.now in
    let all : take c.loop-index.index c.args.events.now ≡ c.args.events.now =
    take_all _ c.args.events.now (omega arith) in
    let P : List Event → Type 0 = λ es. g.S.Sink.took c.args.sink.now c.loop-index.sink (hub_run start es).sent in
    subst P all c.loop-index.invariant.sent

pub returns-clause-sent : goal.returns-clause-sent
returns-clause-sent g c =
    let start = c.args.self.now in
    let events = c.args.events.now in
    let all : take c.loop-index.index events ≡ events = take_all _ events (omega arith) in
    let P : List Event → Type 0 = λ es. g.S.Sink.took c.args.sink.now c.loop-index.sink (hub_run start es).sent in (
      (hub_run start events).sent,
      subst P all c.loop-index.invariant.sent,
      λ d there.
          (each_is_alone d start events there).sent,
    )

pub returns-clause-orders : goal.returns-clause-orders
returns-clause-orders g c =
    subst (AreTaken c.args.self.now) (take_all _ c.args.events.now (omega arith)) c.loop-index.invariant.orders
