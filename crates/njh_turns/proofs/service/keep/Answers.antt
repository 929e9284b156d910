use Rattle.njh_turns.proofs.KeepingLaws.{either_of_only, keeps_refused, keeps_settled, leaves_only, on_err}
use Rattle.njh_turns.proofs.service.keep.Goals as goal

pub follow-requires : goal.follow-requires
follow-requires g c = record { led = (c.requires.led.0, c.requires.led.1.known, c.requires.led.2) }

-- ---- the keeper failed to follow

pub returns-in_err-follow-clause-left : goal.returns-in_err-follow-clause-left
returns-in_err-follow-clause-left g c =
    λ before settled leads.
    on_err c.from_residual.result (either_of_only g.K.Keeper.says c.follow.new.self before c.args.hub.now
    (leaves_only g.K.Keeper.says c.args.keeper.now c.follow.new.self before settled.leaves
    c.in_err-follow.ensures.leaves))

pub returns-in_err-follow-clause-keeps : goal.returns-in_err-follow-clause-keeps
returns-in_err-follow-clause-keeps g c =
    keeps_refused g.K.Keeper.says c.args.keeper.now c.follow.new.self c.from_residual.result c.from_residual.ensures.0
    c.args.hub.now c.in_err-follow.ensures.counts c.in_err-follow.ensures.counted

-- ---- it settled, or failed to

pub returns-clause-left : goal.returns-clause-left
returns-clause-left g c = λ before settled leads.
    on_err c.settle.result (c.settle.ensures.crash before c.args.hub.now
    (leaves_only g.K.Keeper.says c.args.keeper.now c.follow.new.self before settled.leaves
    c.in_ok-follow.ensures.leaves)
    c.in_ok-follow.ensures.known)

pub returns-clause-keeps : goal.returns-clause-keeps
returns-clause-keeps g c =
    keeps_settled g.K.Keeper.says c.args.keeper.now c.follow.new.self c.settle.new.self c.settle.result c.args.hub.now
    c.in_ok-follow.ensures.faultless c.in_ok-follow.ensures.known c.settle.ensures.settled c.settle.ensures.faultless
    c.settle.ensures.counts c.settle.ensures.counted
