use Rattle.std.proofs.Common.{◌≡◌, map, take}
use Rattle.njh_table.proofs.NewRouteLaws.{as_given}
use Rattle.njh_table.proofs.routes.Routes.replaced_by.Given as goal

abbrev pub invariant-loop-route : goal.invariant-loop-route
invariant-loop-route l = l.new ≡ map as_given (take l.route-index l.routes)
