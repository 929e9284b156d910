use Rattle.std.proofs.Common.{◌≡◌, ◌++◌, take}
use Rattle.std.specs.List.{flat_map}
use Rattle.njh_check.specs.Reports.{route_text}
use Rattle.njh_check.proofs.report.put_routes.Given as goal

abbrev pub invariant-loop-index : goal.invariant-loop-index
invariant-loop-index l =
    l.report.items ≡ l.initial.report.items ++ flat_map (route_text l.customer.lines) (take l.index l.customer.routes)
