use Rattle.njh_revision.specs.Revisions.{given_route}
use Rattle.njh_revision.proofs.AlikeLaws.{push_map}
use Rattle.njh_revision.proofs.customer_routes.each_route.Goals as goal

pub loop-place-preserved : goal.loop-place-preserved
loop-place-preserved c = push_map (given_route c.args.number) c.args.customer.now.routes c.loop-place.place
    c.route_at.result
    c.loop-place.routes.items c.push.new.self.items c.route_at.ensures c.in_ok-push.ensures.items c.loop-place.invariant
