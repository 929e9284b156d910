use Rattle.njh_lines.proofs.ProtocolLaws.{ready_by}
use Rattle.njh_lines.proofs.wires.is_ready.Goals as goal

pub returns : goal.returns
returns g c = ready_by c.args.wire.now.protocol c.args.wire.now _ c.is_ready.ensures.bisync c.is_ready.ensures.tcp
