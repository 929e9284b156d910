use Rattle.njh_turns.proofs.BreakLaws.{turn_breaks}
use Rattle.njh_turns.proofs.KeepingLaws.{follows_refused, follows_well, on_err}
use Rattle.njh_turns.proofs.TurnLaws.{read_turn}
use Rattle.njh_turns.proofs.turn.wire_turn.Goals as goal

pub returns-clause-turn : goal.returns-clause-turn
returns-clause-turn g c =
    let read = c.read-reading in
    let did = c.in_ok-act_on.ensures.heard in (
      _,
      read_turn g.W.Wire.says c.args.hub.now c.act_on.new.hub c.args.visit.at.line c.args.visit.quiet read.result
          read.new.into did.0 c.args.wire.now read.new.self c.act_on.new.wire g.met.W.Wire.more read.ensures.answered
          read.ensures.counts read.ensures.counted (λ w. c.requires.resting (read.ensures.prompted w)) did.1,
      c.quiets_behind-quiets.ensures.quiets,
    )

pub returns-clause-follows : goal.returns-clause-follows
returns-clause-follows g c =
    follows_well g.K.Keeper.says c.args.keeper.now c.act_on.new.keeper
    c.quiets_behind-quiets.result c.act_on.new.hub c.in_ok-act_on.ensures.follows.known
    c.in_ok-act_on.ensures.follows.leaves c.in_ok-act_on.ensures.follows.faultless

pub returns-in_err-act_on-clause-breaks : goal.returns-in_err-act_on-clause-breaks
returns-in_err-act_on-clause-breaks g c =
    let read = c.read-reading in
    let did = c.in_err-act_on.ensures.breaks in
    on_err c.from_residual.result (
      _,
      turn_breaks g.W.Wire.says c.args.hub.now c.act_on.new.hub c.args.visit.at.line c.args.visit.quiet
          read.result read.new.into did.0 did.2 c.args.wire.now read.new.self c.act_on.new.wire
          g.met.W.Wire.more read.ensures.answered read.ensures.counts read.ensures.counted
          (λ w. c.requires.resting (read.ensures.prompted w)) did.1 did.3,
    )

pub returns-in_err-act_on-clause-follows : goal.returns-in_err-act_on-clause-follows
returns-in_err-act_on-clause-follows g c =
    follows_refused g.K.Keeper.says c.args.keeper.now c.act_on.new.keeper
    c.from_residual.result c.from_residual.ensures.0
    c.act_on.new.hub c.in_err-act_on.ensures.follows.leaves c.in_err-act_on.ensures.follows.counts
    c.in_err-act_on.ensures.follows.counted
