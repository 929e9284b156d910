use Rattle.std.proofs.Common.{◌≡◌, take}
use Rattle.njh_revision.proofs.customer_routes.have_other_routes.Given as goal

-- the routes so far are the same
abbrev pub invariant-loop-place : goal.invariant-loop-place
invariant-loop-place l = take l.place l.new.routes ≡ take l.place l.customer.routes
