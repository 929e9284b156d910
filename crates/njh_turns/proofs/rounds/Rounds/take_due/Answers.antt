use Rattle.std.proofs.Common.{inl, inr}
use Rattle.njh_turns.proofs.KeepingLaws.{keeps_refused, keeps_settled, leaves_only, on_err, on_ok}
use Rattle.njh_turns.proofs.rounds.Rounds.take_due.Goals as goal

pub returns-clause-round : goal.returns-clause-round
returns-clause-round g c = on_ok c.settle.result c.in_ok-visit.ensures.round

-- what the turns made of the files could not be kept
pub returns-clause-breaks : goal.returns-clause-breaks
returns-clause-breaks g c =
    let round = c.in_ok-visit.ensures.round in
    let follows = c.in_ok-visit.ensures.follows in
    on_err c.settle.result (record {
      breaks = inr (
        record { turns = round.0; whole = round.1; new_quiets = _; round = round.2 },
        c.settle.ensures.crash c.args.hub.now c.visit.new.hub
            (leaves_only g.K.Keeper.says c.args.keeper.now c.visit.new.keeper c.args.hub.now
            c.requires.settled.leaves
            follows.leaves) follows.known,
      );
      none_out = c.visit.ensures.withheld;
    })

pub returns-clause-keeps : goal.returns-clause-keeps
returns-clause-keeps g c =
    keeps_settled g.K.Keeper.says c.args.keeper.now c.visit.new.keeper
    c.settle.new.self
    c.settle.result c.visit.new.hub c.in_ok-visit.ensures.follows.faultless c.in_ok-visit.ensures.follows.known
    c.settle.ensures.settled
    c.settle.ensures.faultless c.settle.ensures.counts c.settle.ensures.counted

-- one of the turns was broken off
pub returns-in_err-visit-clause-breaks : goal.returns-in_err-visit-clause-breaks
returns-in_err-visit-clause-breaks g c =
    on_err c.from_residual.result (record {
      breaks = inl (
        c.in_err-visit.ensures.stops,
        leaves_only g.K.Keeper.says c.args.keeper.now c.visit.new.keeper c.args.hub.now c.requires.settled.leaves
            c.in_err-visit.ensures.follows.leaves,
      );
      none_out = c.visit.ensures.withheld;
    })

pub returns-in_err-visit-clause-keeps : goal.returns-in_err-visit-clause-keeps
returns-in_err-visit-clause-keeps g c =
    keeps_refused g.K.Keeper.says c.args.keeper.now c.visit.new.keeper c.from_residual.result c.from_residual.ensures.0
    c.visit.new.hub c.in_err-visit.ensures.follows.counts c.in_err-visit.ensures.follows.counted
