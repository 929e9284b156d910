use Rattle.std.proofs.Common.{[], refl, ◌∙◌}
use Rattle.njh_wire.proofs.DepartureLaws.{dropped_then}
use Rattle.njh_wire.proofs.departure.drain.Goals as goal

pub loop-init : goal.loop-init
loop-init g c = (([], g.met.C.Connection.none c.args.connection.now), refl)

pub loop-preserved : goal.loop-preserved
loop-preserved g c = (
  dropped_then g.C.Connection.moved g.met.C.Connection.more _ _ _ c.loop.invariant.0 c.in-Ok.ensures.moved,
  c.in-Ok.ensures.place ∙ c.loop.invariant.1,
)

pub returns-in-Err-clause-moved : goal.returns-in-Err-clause-moved
returns-in-Err-clause-moved g c =
    dropped_then g.C.Connection.moved g.met.C.Connection.more _ _ _ c.loop.invariant.0 c.in-Err.ensures.moved
