use Rattle.std.proofs.Common.{◌≡◌, ℕ, ◌+◌, ◌<◌, ◌≤◌, List, [], ◌∷◌, length, map, take, Some, None, ap, sym, subst, ◌∙◌}
use Rattle.std.proofs.Common.{refl, arith}
use Rattle.std.proofs.lemmas.List.{take_all}
use Rattle.njh_hub.specs.declared.event.Event.TheVariants.{Bytes}
use Rattle.njh_hub.specs.WholeHub.{HubRun, HasLine, hub_run}
use Rattle.njh_hub.proofs.PieceLaws.{after_bytes, after_bytes-none}
use Rattle.njh_hub.proofs.RunningLaws.{GoesOn, counted_from, step_done, whole_done}
use Rattle.njh_turns.specs.Breaks.{AtStep, AtLoss}
use Rattle.njh_turns.specs.Keeping.{by_bytes}
use Rattle.njh_turns.specs.Wires.{WireAct, Unsent, sent_act, frame_acts}
use Rattle.njh_turns.proofs.BreakLaws.{bytes_break, bytes_unsent, loss_breaks}
use Rattle.njh_turns.proofs.KeepingLaws.{follows_on, follows_refused, follows_well, no_more_then, on_err, on_ok}
use Rattle.njh_turns.proofs.WireLaws.{step_written}
use Rattle.njh_turns.proofs.turn.pass_bytes.Goals as goal

pub loop-taken-init : goal.loop-taken-init
loop-taken-init g c =
    let none = after_bytes-none c.args.hub.now c.args.arrival.at.line in
    let P : HubRun → Type 0 = λ h. g.W.Wire.says.passed c.args.wire.now c.args.wire.now (map sent_act h.sent) in
    record {
      within = omega arith;
      parts = sym (ap (λ (h : HubRun). h.parts) none);
      acts = subst P (sym none) (g.met.W.Wire.none c.args.wire.now);
      same = λ d. refl;
      seen = λ some. absurd (omega arith);
      asked = c.requires.asked;
      room = c.requires.room;
      counts = omega arith;
      withheld = g.met.W.Wire.withheld_none c.args.wire.now;
      knows = c.requires.follows;
      leaves = λ left now. now;
      kept = refl;
    }

pub take_bytes-used-requires-clause-known : goal.take_bytes-used-requires-clause-known
take_bytes-used-requires-clause-known g c =
    omega (arith, c.requires.known, c.loop-taken.invariant.same c.args.arrival.at.line.customer)

pub take_bytes-used-requires-clause-room : goal.take_bytes-used-requires-clause-room
take_bytes-used-requires-clause-room g c = c.loop-taken.invariant.room

pub follow-requires : goal.follow-requires
follow-requires g c = record {
  led = (
    c.loop-taken.hub,
    c.loop-taken.invariant.knows,
    (_, by_bytes c.args.arrival.at.line.number _ c.take_bytes-used.ensures.rests refl, c.take_bytes-used.ensures.step.hub),
  );
  asked = c.loop-taken.invariant.asked;
}

pub loop-taken-preserved : goal.loop-taken-preserved
loop-taken-preserved g c =
    let start = c.args.hub.now in
    let id = c.args.arrival.at.line in
    let known : HasLine start id = c.requires.known in
    let did = c.take_bytes-used.ensures.step in
    let step : GoesOn start c.loop-taken.hub c.take_bytes-used.new.hub id c.args.arrival.piece.now c.split_at.result.1.now
    c.loop-taken.taken c.take_bytes-used.result c.take_bytes-used.new.out.items = record {
      known = known;
      now_is = c.loop-taken.invariant.parts;
      left_is = c.split_at.ensures.back;
      rests = c.take_bytes-used.ensures.rests;
      used_is = c.take_bytes-used.ensures.taken;
      after_is = did.hub;
      frame_is = did.frame;
    } in
    let F : List ℕ → Type 0 = λ b. g.W.Wire.says.passed c.loop-taken.wire c.send.new.wire (frame_acts b) in
    let sent = subst F c.deref-in-loop-taken.ensures.value c.in-Ok.ensures.ok in
    let before = map sent_act (after_bytes start id (take c.loop-taken.taken c.args.arrival.piece.now)).sent in
    let frame = c.take_bytes-used.new.out.items in
    let acts = g.met.W.Wire.more c.args.wire.now c.loop-taken.wire c.send.new.wire before (frame_acts frame)
    c.loop-taken.invariant.acts sent in
    let P : List WireAct → Type 0 = λ s. g.W.Wire.says.passed c.args.wire.now c.send.new.wire s in
    record {
      within = omega (arith, c.take_bytes-used.ensures.within, c.split_at.ensures.back_len);
      parts = sym (ap (λ (h : HubRun). h.parts) (step_done step));
      acts = subst P (sym (step_written step)) acts;
      same = λ d. did.lines d ∙ c.loop-taken.invariant.same d;
      seen = λ some. subst (λ (b : List ℕ). g.A.Attendant.saw c.follow.new.attendant c.args.arrival.at.place
          c.take_bytes-used.new.hub b) c.deref.ensures.value c.in_ok-follow.ensures.seen;
      asked = c.follow.ensures.asked;
      room = did.room;
      counts = omega (arith, c.loop-taken.invariant.counts, c.in-Ok.ensures.counts);
      withheld = g.met.W.Wire.withheld_more c.args.wire.now c.loop-taken.wire c.send.new.wire
          c.loop-taken.invariant.withheld
          c.in-Ok.ensures.withheld;
      knows = c.in_ok-follow.ensures.known;
      leaves = no_more_then g.K.Keeper.says c.args.keeper.now c.loop-taken.keeper c.follow.new.keeper
          c.loop-taken.invariant.leaves c.in_ok-follow.ensures.leaves;
      kept = c.in_ok-follow.ensures.faultless ∙ c.loop-taken.invariant.kept;
    }

-- ---- the keeper failed behind a step

pub returns-in_err-follow-clause-breaks : goal.returns-in_err-follow-clause-breaks
returns-in_err-follow-clause-breaks g c =
    let start = c.args.hub.now in
    let id = c.args.arrival.at.line in
    let known : HasLine start id = c.requires.known in
    let did = c.take_bytes-used.ensures.step in
    let step : GoesOn start c.loop-taken.hub c.take_bytes-used.new.hub id c.args.arrival.piece.now c.split_at.result.1.now
    c.loop-taken.taken c.take_bytes-used.result c.take_bytes-used.new.out.items = record {
      known = known;
      now_is = c.loop-taken.invariant.parts;
      left_is = c.split_at.ensures.back;
      rests = c.take_bytes-used.ensures.rests;
      used_is = c.take_bytes-used.ensures.taken;
      after_is = did.hub;
      frame_is = did.frame;
    } in
    on_err c.from_residual.result (
      AtStep c.loop-taken.taken (c.loop-taken.taken + c.take_bytes-used.result),
      bytes_break g.W.Wire.says c.args.wire.now c.loop-taken.wire step
          (omega (arith, c.take_bytes-used.ensures.within, c.split_at.ensures.back_len))
          c.loop-taken.invariant.acts c.loop-taken.invariant.counts,
    )

pub returns-in_err-follow-clause-follows : goal.returns-in_err-follow-clause-follows
returns-in_err-follow-clause-follows g c =
    follows_refused g.K.Keeper.says c.args.keeper.now c.follow.new.keeper
    c.from_residual.result c.from_residual.ensures.0
    c.take_bytes-used.new.hub (no_more_then g.K.Keeper.says c.args.keeper.now c.loop-taken.keeper c.follow.new.keeper
    c.loop-taken.invariant.leaves c.in_err-follow.ensures.leaves)
    (omega (arith, c.loop-taken.invariant.kept, c.in_err-follow.ensures.counts))
    (counted_from _ _ _ (omega (arith, c.loop-taken.invariant.kept)) c.in_err-follow.ensures.counted)

pub returns-in_err-follow-clause-lines : goal.returns-in_err-follow-clause-lines
returns-in_err-follow-clause-lines g c = λ d. c.take_bytes-used.ensures.step.lines d ∙ c.loop-taken.invariant.same d

-- ---- a frame could not be written

pub lose-requires-clause-known : goal.lose-requires-clause-known
lose-requires-clause-known g c = omega (
  arith,
  c.requires.known,
  c.loop-taken.invariant.same c.args.arrival.at.line.customer,
  c.take_bytes-used.ensures.step.lines c.args.arrival.at.line.customer,
)

pub returns-in-Err-clause-done : goal.returns-in-Err-clause-done
returns-in-Err-clause-done g c =
    let start = c.args.hub.now in
    let id = c.args.arrival.at.line in
    let known : HasLine start id = c.requires.known in
    let did = c.take_bytes-used.ensures.step in
    let step : GoesOn start c.loop-taken.hub c.take_bytes-used.new.hub id c.args.arrival.piece.now c.split_at.result.1.now
    c.loop-taken.taken c.take_bytes-used.result c.take_bytes-used.new.out.items = record {
      known = known;
      now_is = c.loop-taken.invariant.parts;
      left_is = c.split_at.ensures.back;
      rests = c.take_bytes-used.ensures.rests;
      used_is = c.take_bytes-used.ensures.taken;
      after_is = did.hub;
      frame_is = did.frame;
    } in
    let n = c.loop-taken.taken + c.take_bytes-used.result in
    let frame = c.take_bytes-used.new.out.items in
    let F : List ℕ → Type 0 = λ b. g.W.Wire.says.passed c.loop-taken.wire c.send.new.wire (Unsent b ∷ []) in
    let unsent = subst F c.deref-in-loop-taken.ensures.value c.in-Err.ensures.err.0 in
    let some : 0 < length frame = omega (
      arith,
      c.in-Err.ensures.err.1,
      ap (λ (b : List ℕ). length b)
          c.deref-in-loop-taken.ensures.value,
    ) in
    let any : 0 < c.take_bytes-used.result =
    c.take_bytes-used.ensures.progress (omega (arith, c.split_at.ensures.back_len)) in
    let within : n ≤ length c.args.arrival.piece.now =
    omega (arith, c.take_bytes-used.ensures.within, c.split_at.ensures.back_len) in
    on_ok c.lose.result (
      Some n,
      bytes_unsent g.W.Wire.says c.args.wire.now c.loop-taken.wire c.send.new.wire g.met.W.Wire.more
          c.lose.new.hub step some any within c.loop-taken.invariant.acts
          c.loop-taken.invariant.counts
          unsent c.in-Err.ensures.counts c.in-Err.ensures.counted c.lose.ensures.step.hub,
    )

pub returns-in-Err-clause-breaks : goal.returns-in-Err-clause-breaks
returns-in-Err-clause-breaks g c =
    let start = c.args.hub.now in
    let id = c.args.arrival.at.line in
    let known : HasLine start id = c.requires.known in
    let did = c.take_bytes-used.ensures.step in
    let step : GoesOn start c.loop-taken.hub c.take_bytes-used.new.hub id c.args.arrival.piece.now c.split_at.result.1.now
    c.loop-taken.taken c.take_bytes-used.result c.take_bytes-used.new.out.items = record {
      known = known;
      now_is = c.loop-taken.invariant.parts;
      left_is = c.split_at.ensures.back;
      rests = c.take_bytes-used.ensures.rests;
      used_is = c.take_bytes-used.ensures.taken;
      after_is = did.hub;
      frame_is = did.frame;
    } in
    let n = c.loop-taken.taken + c.take_bytes-used.result in
    let frame = c.take_bytes-used.new.out.items in
    let F : List ℕ → Type 0 = λ b. g.W.Wire.says.passed c.loop-taken.wire c.send.new.wire (Unsent b ∷ []) in
    let unsent = subst F c.deref-in-loop-taken.ensures.value c.in-Err.ensures.err.0 in
    let some : 0 < length frame = omega (
      arith,
      c.in-Err.ensures.err.1,
      ap (λ (b : List ℕ). length b)
          c.deref-in-loop-taken.ensures.value,
    ) in
    let any : 0 < c.take_bytes-used.result =
    c.take_bytes-used.ensures.progress (omega (arith, c.split_at.ensures.back_len)) in
    let within : n ≤ length c.args.arrival.piece.now =
    omega (arith, c.take_bytes-used.ensures.within, c.split_at.ensures.back_len) in
    on_err c.lose.result (
      AtLoss n,
      loss_breaks g.W.Wire.says start c.lose.new.hub (Bytes id c.args.arrival.piece.now) n c.args.wire.now
          c.send.new.wire
          (bytes_unsent g.W.Wire.says c.args.wire.now c.loop-taken.wire c.send.new.wire
          g.met.W.Wire.more
          c.lose.new.hub step some any within c.loop-taken.invariant.acts
          c.loop-taken.invariant.counts
          unsent c.in-Err.ensures.counts c.in-Err.ensures.counted c.lose.ensures.step.hub),
    )

pub returns-in-Err-clause-follows : goal.returns-in-Err-clause-follows
returns-in-Err-clause-follows g c =
    follows_on g.K.Keeper.says c.args.keeper.now c.follow.new.keeper
    c.lose.new.keeper c.lose.result
    c.lose.new.hub (no_more_then g.K.Keeper.says c.args.keeper.now c.loop-taken.keeper c.follow.new.keeper
    c.loop-taken.invariant.leaves c.in_ok-follow.ensures.leaves) (c.in_ok-follow.ensures.faultless ∙ c.loop-taken.invariant.kept)
    c.lose.ensures.follows

pub returns-in-Err-clause-withheld : goal.returns-in-Err-clause-withheld
returns-in-Err-clause-withheld g c =
    g.met.W.Wire.withheld_more c.args.wire.now c.loop-taken.wire c.send.new.wire c.loop-taken.invariant.withheld
    c.in-Err.ensures.withheld

pub returns-in-Err-clause-lines : goal.returns-in-Err-clause-lines
returns-in-Err-clause-lines g c = λ d. c.lose.ensures.step.lines d ∙ c.take_bytes-used.ensures.step.lines d
    ∙ c.loop-taken.invariant.same d

-- ---- all bytes were used

pub returns-clause-done : goal.returns-clause-done
returns-clause-done g c =
    let all : take c.loop-taken.taken c.args.arrival.piece.now ≡ c.args.arrival.piece.now = take_all _ c.args.arrival.piece.now (omega arith) in
    let on : after_bytes c.args.hub.now c.args.arrival.at.line (take c.loop-taken.taken c.args.arrival.piece.now)
    ≡ hub_run c.args.hub.now (Bytes c.args.arrival.at.line c.args.arrival.piece.now ∷ []) =
    ap (after_bytes c.args.hub.now c.args.arrival.at.line) all ∙ sym (whole_done c.args.hub.now (Bytes c.args.arrival.at.line c.args.arrival.piece.now))
    in
    let P : HubRun → Type 0 = λ h. g.W.Wire.says.passed c.args.wire.now c.loop-taken.wire (map sent_act h.sent) in (
      None,
      record {
        hub = c.loop-taken.invariant.parts ∙ ap (λ (h : HubRun). h.parts) on;
        acts = subst P on c.loop-taken.invariant.acts;
        stop = tt;
        counts = c.loop-taken.invariant.counts;
        counted = λ never. cc;
      },
    )

pub returns-clause-follows : goal.returns-clause-follows
returns-clause-follows g c =
    follows_well g.K.Keeper.says c.args.keeper.now c.loop-taken.keeper tt
    c.loop-taken.hub
    c.loop-taken.invariant.knows c.loop-taken.invariant.leaves c.loop-taken.invariant.kept

pub returns-clause-withheld : goal.returns-clause-withheld
returns-clause-withheld g c = c.loop-taken.invariant.withheld

pub returns-in_err-follow-clause-withheld : goal.returns-in_err-follow-clause-withheld
returns-in_err-follow-clause-withheld g c = c.loop-taken.invariant.withheld

pub returns-clause-lines : goal.returns-clause-lines
returns-clause-lines g c = c.loop-taken.invariant.same

pub returns-clause-room : goal.returns-clause-room
returns-clause-room g c = c.loop-taken.invariant.room
