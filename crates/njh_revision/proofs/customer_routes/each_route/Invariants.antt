use Rattle.std.proofs.Common.{◌≡◌, take}
use Rattle.njh_revision.specs.Revisions.{given_routes}
use Rattle.njh_revision.proofs.customer_routes.each_route.Given as goal

-- the routes so far
abbrev pub invariant-loop-place : goal.invariant-loop-place
invariant-loop-place l = l.routes.items ≡ given_routes l.number (take l.place l.customer.routes)
