use Rattle.std.proofs.Common.{ℕ, ◌<◌, length}
use Rattle.njh_lines.proofs.ProtocolLaws.{stalled_by}
use Rattle.njh_lines.proofs.wires.deadline.Goals as goal

pub returns-clause-waits : goal.returns-clause-waits
returns-clause-waits g c = stalled_by c.args.wire.now.protocol c.args.wire.now.since _ (0 < length c.args.wire.now.waiting)
    c.deadline.ensures.waits c.deadline.ensures.waits_by_tcp
