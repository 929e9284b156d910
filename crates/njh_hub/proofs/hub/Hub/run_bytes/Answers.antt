use Rattle.std.proofs.Common.{◌≡◌, ℕ, ◌+◌, ◌<◌, ◌≤◌, List, [], ◌∷◌, ◌++◌, length, take, ap, sym, subst, ◌∙◌, arith}
use Rattle.std.proofs.Common.{rules}
use Rattle.std.proofs.lemmas.List.{take_all}
use Rattle.njh_table.specs.declared.LineId.{LineId}
use Rattle.njh_customer.specs.Feeding.{sent_on}
use Rattle.njh_hub.specs.declared.event.Event.TheVariants.{Bytes}
use Rattle.njh_hub.specs.declared.fault.Cause.{Cause}
use Rattle.njh_hub.specs.OwnEvents.{first_events}
use Rattle.njh_hub.specs.RunStops.{HandedUntil, IfHub, IsRefused}
use Rattle.njh_hub.specs.WholeHub.{HubRun, HasLine, part, sent_by, hub_run}
use Rattle.njh_hub.proofs.PieceLaws.{after_bytes}
use Rattle.njh_hub.proofs.RunningLaws.{GoesOn, step_done, sink_done, whole_done, sent_pair, is_within_one, counted_from}
use Rattle.njh_hub.proofs.StopLaws.{bytes_stop, some_taken}
use Rattle.njh_hub.proofs.CutLaws.{step_stops}
use Rattle.njh_hub.proofs.hub.Hub.run_bytes.Goals as goal

pub loop-used-preserved : goal.loop-used-preserved
loop-used-preserved g c =
    let start = c.args.self.now in
    let id = c.args.id in
    let did = c.in-Ok.ensures.step in
    let known : HasLine start id = omega (arith, did.known, c.loop-used.invariant.same id.customer) in
    let step : GoesOn start c.loop-used.self c.take.new.self id c.args.piece.now c.split_at.result.1.now
    c.loop-used.taken c.in-Ok.used c.take.new.out.items = record {
      known = known;
      now_is = c.loop-used.invariant.parts;
      left_is = c.split_at.ensures.back;
      rests = c.in-Ok.ensures.rests;
      used_is = c.in-Ok.ensures.taken;
      after_is = did.hub;
      frame_is = did.frame;
    } in
    let there = step_done step in
    let F : List ℕ → Type 0 = λ b. g.S.Sink.took c.loop-used.sink c.hand_over.new.sink
    (sent_by id.customer (sent_on id.number b)) in
    let handed = subst F c.deref.ensures.value c.in-Ok-hand_over.ensures.ok in
    let P : HubRun → Type 0 = λ h. g.S.Sink.took c.args.sink.now c.hand_over.new.sink h.sent in
    let took = subst P (sym there) (g.met.S.Sink.more _ _ _ _ _ c.loop-used.invariant.sent handed) in
    record {
      within = omega arith;
      left = λ _. omega arith;
      parts = sym (ap (λ (h : HubRun). h.parts) there);
      sent = took;
      same = λ d. did.lines d ∙ c.loop-used.invariant.same d;
      known = λ _. known;
      room = λ _. did.room;
      first = λ none. let left : 0 < length c.split_at.result.1.now = omega (arith, c.split_at.ensures.back_len) in
          absurd (omega (arith, c.in-Ok.ensures.progress.0 left));
      counts = omega (arith, c.in-Ok-hand_over.ensures.counts);
    }

pub returns-then-taken-piece : goal.returns-then-taken-piece
returns-then-taken-piece g c =
    let start = c.args.self.now in
    let id = c.args.id in
    let did = c.in-Ok.ensures.step in
    let known : HasLine start id = omega (arith, did.known, c.loop-used.invariant.same id.customer) in
    let step : GoesOn start c.loop-used.self c.take.new.self id c.args.piece.now c.split_at.result.1.now
    c.loop-used.taken c.in-Ok.used c.take.new.out.items = record {
      known = known;
      now_is = c.loop-used.invariant.parts;
      left_is = c.split_at.ensures.back;
      rests = c.in-Ok.ensures.rests;
      used_is = c.in-Ok.ensures.taken;
      after_is = did.hub;
      frame_is = did.frame;
    } in
    let there = step_done step in
    let F : List ℕ → Type 0 = λ b. g.S.Sink.took c.loop-used.sink c.hand_over.new.sink
    (sent_by id.customer (sent_on id.number b)) in
    let handed = subst F c.deref.ensures.value c.in-Ok-hand_over.ensures.ok in
    let P : HubRun → Type 0 = λ h. g.S.Sink.took c.args.sink.now c.hand_over.new.sink h.sent in
    let took = subst P (sym there) (g.met.S.Sink.more _ _ _ _ _ c.loop-used.invariant.sent handed) in
    let all : take (c.loop-used.taken + c.in-Ok.used) c.args.piece.now ≡ c.args.piece.now =
    take_all _ c.args.piece.now (omega arith) in
    let on : after_bytes start id (take (c.loop-used.taken + c.in-Ok.used) c.args.piece.now)
    ≡ hub_run start (Bytes id c.args.piece.now ∷ []) =
    ap (after_bytes start id) all ∙ sym (whole_done start (Bytes id c.args.piece.now)) in
    record {
      leads = sym (ap (λ (h : HubRun). h.parts) there) ∙ ap (λ (h : HubRun). h.parts) on;
      handed = subst P on took;
      known = known;
      lines = λ d. did.lines d ∙ c.loop-used.invariant.same d;
      room = λ _. did.room;
      one = search rules;
      behind = search rules;
      causes = search rules;
      memory = search rules;
      begun = search rules;
      behind_frame = search rules;
      counts = omega (arith, c.in-Ok-hand_over.ensures.counts);
      counted = search rules;
    }

pub returns-in-Err-hand_over : goal.returns-in-Err-hand_over
returns-in-Err-hand_over g c =
    let start = c.args.self.now in
    let id = c.args.id in
    let did = c.in-Ok.ensures.step in
    let known : HasLine start id = omega (arith, did.known, c.loop-used.invariant.same id.customer) in
    let step : GoesOn start c.loop-used.self c.take.new.self id c.args.piece.now c.split_at.result.1.now
    c.loop-used.taken c.in-Ok.used c.take.new.out.items = record {
      known = known;
      now_is = c.loop-used.invariant.parts;
      left_is = c.split_at.ensures.back;
      rests = c.in-Ok.ensures.rests;
      used_is = c.in-Ok.ensures.taken;
      after_is = did.hub;
      frame_is = did.frame;
    } in
    let there = step_done step in
    let frame = c.deref.result.now in
    let fault = c.after_sink.result in
    let taken = c.loop-used.taken + c.in-Ok.used in
    let stop = sink_done start id c.args.piece.now taken fault.events fault.bytes
    c.after_sink.ensures.whole c.after_sink.ensures.part in
    let sent = (after_bytes start id (take c.loop-used.taken c.args.piece.now)).sent in
    let all = (hub_run start (first_events (Bytes id c.args.piece.now ∷ []) fault.events fault.bytes)).sent in
    let Q : Cause → Type 0 = λ cause. HandedUntil g.S.Sink.took g.S.Sink.refused cause c.args.sink.now
    c.hand_over.new.sink all in
    let some : 0 < length c.take.new.out.items =
    omega (arith, c.in-Err-hand_over.ensures.err.1, ap (λ (b : List ℕ). length b) c.deref.ensures.value) in
    let left : 0 < length c.split_at.result.1.now =
    some_taken (part id.customer c.loop-used.self) id.number c.split_at.result.1.now
    (omega (arith, some, ap (λ (b : List ℕ). length b) did.frame)) in
    let any : 0 < c.in-Ok.used = c.in-Ok.ensures.progress.0 left in
    let inside : taken ≤ length c.args.piece.now =
    omega (arith, c.in-Ok.ensures.progress.1, c.split_at.ensures.back_len) in
    let B : Cause → Type 0 = λ cause. IfHub cause (λ why. fault.bytes ≡ 0) in
    let C : Cause → Type 0 = λ cause. IfHub cause
    (λ why. (fault.events ≡ 0) × IsRefused start (Bytes id c.args.piece.now) why) in
    record {
      leads = sym (ap (λ (h : HubRun). h.parts) (stop ∙ there));
      handed = subst Q (sym c.after_sink.ensures.cause) (record {
        front = sent;
        last = (id, frame);
        between = c.loop-used.sink;
        are = ap (λ (h : HubRun). h.sent) (stop ∙ there)
            ∙ ap (λ (pairs : List (LineId × List ℕ)). sent ++ pairs)
            (ap (λ (b : List ℕ). sent_by id.customer (sent_on id.number b)) (sym c.deref.ensures.value)
            ∙ sent_pair id frame c.in-Err-hand_over.ensures.err.1);
        took_front = c.loop-used.invariant.sent;
        refused_last = c.in-Err-hand_over.ensures.err.0;
      });
      known = search rules;
      lines = λ d. did.lines d ∙ c.loop-used.invariant.same d;
      room = search rules;
      one = is_within_one id c.args.piece.now taken fault c.after_sink.ensures.whole c.after_sink.ensures.part;
      behind = λ _. known;
      causes = subst C (sym c.after_sink.ensures.cause) tt;
      memory = λ is. cc (is, c.after_sink.ensures.cause);
      begun = subst B (sym c.after_sink.ensures.cause) tt;
      behind_frame = λ _. bytes_stop start id c.args.piece.now taken fault
          (step_stops step some any inside) c.after_sink.ensures.whole
          c.after_sink.ensures.part;
      counts = omega (arith, c.in-Err-hand_over.ensures.counts);
      counted = λ _. counted_from (g.S.Sink.count c.args.sink.now) (g.S.Sink.count c.loop-used.sink)
          (g.S.Sink.count c.hand_over.new.sink) c.loop-used.invariant.counts c.in-Err-hand_over.ensures.counted;
    }
