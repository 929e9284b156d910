use Rattle.std.proofs.Common.{[]}
use Rattle.njh_tcpwire.specs.Moves.{IsOfRead}
use Rattle.njh_tcpwire.specs.code.MovesLaws.{moves_then}
use Rattle.njh_tcpwire.proofs.connection.TcpConnection.listen_and_give.Goals as goal

pub returns-clause-moved : goal.returns-clause-moved
returns-clause-moved g c =
    moves_then IsOfRead g.C.Connection.moved g.met.C.Connection.more _ _ _ [] _ [] [] c.listen-stop.ensures.moved
    c.give-count.ensures.moved
