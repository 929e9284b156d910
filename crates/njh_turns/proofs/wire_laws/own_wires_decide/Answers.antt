use Rattle.njh_turns.proofs.OwnWires.{own_wires_decide}
use Rattle.njh_turns.proofs.wire_laws.own_wires_decide.Goals as goal

pub returns : goal.returns
returns c = own_wires_decide
