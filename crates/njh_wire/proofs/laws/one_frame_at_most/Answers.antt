use Rattle.njh_wire.proofs.OneFrameLaws.{one_at_most}
use Rattle.njh_wire.proofs.laws.one_frame_at_most.Goals as goal

pub returns : goal.returns
returns c = one_at_most
