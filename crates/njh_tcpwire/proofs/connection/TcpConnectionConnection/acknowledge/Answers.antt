use Rattle.njh_tcpwire.proofs.StepLaws.{answer_moves}
use Rattle.njh_tcpwire.proofs.connection.TcpConnectionConnection.acknowledge.Goals as goal

pub returns-clause-moved : goal.returns-clause-moved
returns-clause-moved g c = answer_moves g.C.Connection.moved _ _ _ _ c.answer.ensures.moved
