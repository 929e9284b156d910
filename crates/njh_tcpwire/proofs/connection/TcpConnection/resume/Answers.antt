use Rattle.std.proofs.Common.{refl}
use Rattle.njh_tcpwire.specs.Moves.{IsOfRead}
use Rattle.njh_tcpwire.proofs.StepLaws.{moves_marked}
use Rattle.njh_tcpwire.proofs.connection.TcpConnection.resume.Goals as goal

pub returns-clause-moved : goal.returns-clause-moved
returns-clause-moved g c =
    moves_marked IsOfRead g.C.Connection.moved g.met.C.Connection.none _ _ _ c.self.view_is refl refl refl refl
