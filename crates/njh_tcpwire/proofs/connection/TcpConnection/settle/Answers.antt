use Rattle.std.proofs.Common.{refl}
use Rattle.njh_tcpwire.proofs.StepLaws.{moves_settled}
use Rattle.njh_tcpwire.proofs.connection.TcpConnection.settle.Goals as goal

pub returns-clause-moved : goal.returns-clause-moved
returns-clause-moved g c =
    let charged = rw (← c.self.view_is) at c.requires in
    moves_settled g.C.Connection.moved g.met.C.Connection.none _ _ _ c.args.byte c.self.view_is refl refl refl charged refl
