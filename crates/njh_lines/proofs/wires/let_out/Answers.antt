use Rattle.std.proofs.Common.{ℕ, ◌<◌, length}
use Rattle.njh_lines.proofs.ProtocolLaws.{flushed_by}
use Rattle.njh_lines.proofs.wires.let_out.Goals as goal

pub returns-clause-flushed : goal.returns-clause-flushed
returns-clause-flushed g c = flushed_by c.args.wire.now.protocol g.C.Connection.moved _ _
    (0 < length c.args.wire.now.waiting) c.flush.ensures.flushed c.flush.ensures.flushed_by_tcp
