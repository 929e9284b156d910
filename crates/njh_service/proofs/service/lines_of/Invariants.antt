use Rattle.std.proofs.Common.{◌≡◌, map, take}
use Rattle.njh_service.proofs.service.lines_of.Given as goal

abbrev pub invariant-loop-endpoint : goal.invariant-loop-endpoint
invariant-loop-endpoint l = l.lines.items ≡ map (λ endpoint. endpoint.line) (take l.endpoint-index l.endpoints)
