use Rattle.std.proofs.Common.{[], None, arith}
use Rattle.njh_revision.proofs.AlikeLaws.{same_more}
use Rattle.njh_revision.proofs.customer_routes.have_other_routes.Goals as goal

pub loop-place-preserved : goal.loop-place-preserved
loop-place-preserved c = same_more c.args.customer.now.routes c.args.new.now.routes c.loop-place.place
    (record { node = []; line = 0; second = None })
    (omega (arith, c.loop-place-test.true, c.routes-place-end.ensures))
    (c.is_other_route.ensures c.if-is_other_route.false) c.loop-place.invariant
