use Rattle.std.proofs.Common.{[]}
use Rattle.njh_tcpwire.specs.Moves.{IsOfSend}
use Rattle.njh_tcpwire.specs.code.MovesLaws.{moves_then}
use Rattle.njh_tcpwire.proofs.connection.TcpConnection.finish.Goals as goal

-- what waited went out, and then no more is sent
pub returns-in-Ok-true-clause-moved : goal.returns-in-Ok-true-clause-moved
returns-in-Ok-true-clause-moved g c =
    moves_then IsOfSend g.C.Connection.moved g.met.C.Connection.more _ _ _ [] [] [] [] c.push.ensures.moved
    c.shut_inner.ensures.moved
