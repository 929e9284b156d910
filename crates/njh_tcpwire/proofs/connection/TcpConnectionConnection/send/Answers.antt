use Rattle.njh_tcpwire.proofs.StepLaws.{send_moves}
use Rattle.njh_tcpwire.proofs.connection.TcpConnectionConnection.send.Goals as goal

pub returns-clause-moved : goal.returns-clause-moved
returns-clause-moved g c = send_moves g.C.Connection.moved _ _ _ _ c.take_all.ensures.moved
