use Rattle.std.proofs.Common.{List, subst, sym}
use Rattle.njh_wire.specs.Standing.{Standing}
use Rattle.njh_service.specs.Serving.{ArePlaced, HaveProtocols}
use Rattle.njh_service.proofs.serving.service_over.Goals as goal

-- the service's wires are those that were made
pub returns-in-Ok-new-clause-places : goal.returns-in-Ok-new-clause-places
returns-in-Ok-new-clause-places g c = subst (λ (wires : List (Standing g.row.N-Connection.Denot)). ArePlaced wires)
    (sym c.in-Ok-new.ensures.wires) c.in-Ok.ensures.places

pub returns-in-Ok-new-clause-protocols : goal.returns-in-Ok-new-clause-protocols
returns-in-Ok-new-clause-protocols g c =
    subst (λ (wires : List (Standing g.row.N-Connection.Denot)). HaveProtocols c.args.endpoints.now wires)
    (sym c.in-Ok-new.ensures.wires) c.in-Ok.ensures.protocols
