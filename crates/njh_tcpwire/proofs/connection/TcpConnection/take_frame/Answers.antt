use Rattle.std.proofs.Common.{◌-◌, refl, arith}
use Rattle.njh_tcpwire.proofs.StepLaws.{moves_charged, moves_dropped}
use Rattle.njh_tcpwire.proofs.connection.TcpConnection.take_frame.Goals as goal

pub returns-then-is_sent-clause-moved : goal.returns-then-is_sent-clause-moved
returns-then-is_sent-clause-moved g c =
    let gone = rw (← c.self.view_is) at c.requires.gone in
    let settled = rw (← c.self.view_is) at c.requires.settled in
    moves_dropped g.C.Connection.moved g.met.C.Connection.none _ _ _ c.write-count.result c.args.bytes.now c.self.view_is
    gone refl c.write-count.ensures.written refl settled settled

pub returns-clause-moved : goal.returns-clause-moved
returns-clause-moved g c =
    let gone = rw (← c.self.view_is) at c.requires.gone in
    let settled = rw (← c.self.view_is) at c.requires.settled in
    moves_charged g.C.Connection.moved g.met.C.Connection.none _ _ _ c.write-count.result (c.write-count.result - 1) _
    c.args.bytes.now c.self.view_is gone refl c.write-count.ensures.written refl settled refl (omega arith) (omega arith) refl
