use Rattle.njh_tcpwire.proofs.StepLaws.{read_moves}
use Rattle.njh_tcpwire.proofs.connection.TcpConnectionConnection.receive.Goals as goal

pub returns-clause-moved : goal.returns-clause-moved
returns-clause-moved g c = read_moves g.C.Connection.moved _ _ _ _ c.read.ensures.moved
