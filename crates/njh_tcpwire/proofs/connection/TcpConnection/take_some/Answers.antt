use Rattle.std.proofs.Common.{[]}
use Rattle.njh_tcpwire.specs.Moves.{IsOfSend}
use Rattle.njh_tcpwire.specs.code.MovesLaws.{moves_then}
use Rattle.njh_tcpwire.proofs.connection.TcpConnection.take_some.Goals as goal

-- what waited went out, and then some bytes of the line are taken
pub returns-else-is_empty-clause-moved : goal.returns-else-is_empty-clause-moved
returns-else-is_empty-clause-moved g c =
    moves_then IsOfSend g.C.Connection.moved g.met.C.Connection.more _ _ _ [] [] [] _ c.push.ensures.moved
    c.take_next.ensures.moved
