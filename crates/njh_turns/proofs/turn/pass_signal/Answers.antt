use Rattle.std.proofs.Common.{ℕ, ◌<◌, List, [], ◌∷◌, length, Some, refl, ap, subst, ◌∙◌, arith}
use Rattle.njh_hub.specs.OwnEvents.{event_by}
use Rattle.njh_turns.specs.Breaks.{AtStep, AtLoss}
use Rattle.njh_turns.specs.Keeping.{by_signal}
use Rattle.njh_turns.specs.Wires.{Unsent}
use Rattle.njh_turns.proofs.BreakLaws.{loss_breaks, signal_breaks, signal_lost}
use Rattle.njh_turns.proofs.KeepingLaws.{follows_on, follows_refused, follows_well, on_err, on_ok}
use Rattle.njh_turns.proofs.turn.pass_signal.Goals as goal

pub follow-requires : goal.follow-requires
follow-requires g c = record {
  led = (c.args.hub.now, c.requires.follows, (_, by_signal c.args.given.at.line.number _ refl, c.take_signal.ensures.hub));
  asked = c.requires.asked;
}

pub returns-in_err-follow-clause-breaks : goal.returns-in_err-follow-clause-breaks
returns-in_err-follow-clause-breaks g c =
    on_err c.from_residual.result (
      AtStep 0 0,
      signal_breaks g.W.Wire.says c.args.hub.now c.take_signal.new.hub c.args.given.signal c.args.given.at.line
          c.args.wire.now (g.met.W.Wire.none c.args.wire.now) c.take_signal.ensures.hub,
    )

pub returns-in_err-follow-clause-follows : goal.returns-in_err-follow-clause-follows
returns-in_err-follow-clause-follows g c =
    follows_refused g.K.Keeper.says c.args.keeper.now c.follow.new.keeper
    c.from_residual.result c.from_residual.ensures.0
    c.take_signal.new.hub c.in_err-follow.ensures.leaves c.in_err-follow.ensures.counts c.in_err-follow.ensures.counted

pub returns-in_err-follow-clause-withheld : goal.returns-in_err-follow-clause-withheld
returns-in_err-follow-clause-withheld g c = g.met.W.Wire.withheld_none c.args.wire.now

pub returns-in-Ok-clause-follows : goal.returns-in-Ok-clause-follows
returns-in-Ok-clause-follows g c =
    follows_well g.K.Keeper.says c.args.keeper.now c.follow.new.keeper tt
    c.take_signal.new.hub
    c.in_ok-follow.ensures.known c.in_ok-follow.ensures.leaves c.in_ok-follow.ensures.faultless

pub lose-requires-clause-known : goal.lose-requires-clause-known
lose-requires-clause-known g c = omega (arith, c.requires.known, c.take_signal.ensures.lines c.args.given.at.line.customer)

pub returns-in-Err-clause-done : goal.returns-in-Err-clause-done
returns-in-Err-clause-done g c =
    let frame = c.take_signal.new.out.items in
    let F : List ℕ → Type 0 = λ b. g.W.Wire.says.passed c.args.wire.now c.send.new.wire (Unsent b ∷ []) in
    let unsent = subst F c.deref-2.ensures.value c.in-Err.ensures.err.0 in
    let some : 0 < length frame = omega (
      arith,
      c.in-Err.ensures.err.1,
      ap (λ (b : List ℕ). length b)
          c.deref-2.ensures.value,
    ) in
    on_ok c.lose.result (
      Some 0,
      signal_lost g.W.Wire.says c.args.hub.now c.take_signal.new.hub c.lose.new.hub c.args.given.signal
          c.args.given.at.line frame
          c.args.wire.now c.send.new.wire c.take_signal.ensures.hub c.take_signal.ensures.frame some unsent
          c.in-Err.ensures.counts c.in-Err.ensures.counted c.lose.ensures.step.hub,
    )

pub returns-in-Err-clause-breaks : goal.returns-in-Err-clause-breaks
returns-in-Err-clause-breaks g c =
    let frame = c.take_signal.new.out.items in
    let F : List ℕ → Type 0 = λ b. g.W.Wire.says.passed c.args.wire.now c.send.new.wire (Unsent b ∷ []) in
    let unsent = subst F c.deref-2.ensures.value c.in-Err.ensures.err.0 in
    let some : 0 < length frame = omega (
      arith,
      c.in-Err.ensures.err.1,
      ap (λ (b : List ℕ). length b)
          c.deref-2.ensures.value,
    ) in
    on_err c.lose.result (
      AtLoss 0,
      loss_breaks g.W.Wire.says c.args.hub.now c.lose.new.hub (event_by c.args.given.signal c.args.given.at.line) 0
          c.args.wire.now c.send.new.wire
          (signal_lost g.W.Wire.says c.args.hub.now c.take_signal.new.hub c.lose.new.hub c.args.given.signal
          c.args.given.at.line
          frame c.args.wire.now c.send.new.wire c.take_signal.ensures.hub c.take_signal.ensures.frame some unsent
          c.in-Err.ensures.counts c.in-Err.ensures.counted c.lose.ensures.step.hub),
    )

pub returns-in-Err-clause-follows : goal.returns-in-Err-clause-follows
returns-in-Err-clause-follows g c =
    follows_on g.K.Keeper.says c.args.keeper.now c.follow.new.keeper
    c.lose.new.keeper c.lose.result
    c.lose.new.hub c.in_ok-follow.ensures.leaves c.in_ok-follow.ensures.faultless c.lose.ensures.follows

pub returns-in-Err-clause-lines : goal.returns-in-Err-clause-lines
returns-in-Err-clause-lines g c = λ d. c.lose.ensures.step.lines d ∙ c.take_signal.ensures.lines d
