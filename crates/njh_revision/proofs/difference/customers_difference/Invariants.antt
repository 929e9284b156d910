use Rattle.std.proofs.Common.{◌≡◌, map, take}
use Rattle.njh_revision.specs.Revisions.{without_routes}
use Rattle.njh_revision.proofs.difference.customers_difference.Given as goal

-- the customers so far are alike
abbrev pub invariant-loop-place : goal.invariant-loop-place
invariant-loop-place l = map without_routes (take l.place l.others) ≡ map without_routes (take l.place l.customers)
