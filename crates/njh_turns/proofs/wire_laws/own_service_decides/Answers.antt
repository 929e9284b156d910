use Rattle.njh_turns.proofs.OwnService.{own_service}
use Rattle.njh_turns.proofs.wire_laws.own_service_decides.Goals as goal

pub returns : goal.returns
returns c = own_service
