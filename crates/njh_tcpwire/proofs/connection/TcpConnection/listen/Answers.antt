use Rattle.std.proofs.Common.{[]}
use Rattle.njh_tcpwire.specs.Moves.{IsOfRead}
use Rattle.njh_tcpwire.specs.code.MovesLaws.{moves_none, moves_then}
use Rattle.njh_tcpwire.proofs.connection.TcpConnection.listen.Goals as goal

pub returns-then-not-is_given-clause-moved : goal.returns-then-not-is_given-clause-moved
returns-then-not-is_given-clause-moved g c =
    moves_none IsOfRead g.C.Connection.moved g.met.C.Connection.none c.args.self.now

pub returns-in-Some-clause-moved : goal.returns-in-Some-clause-moved
returns-in-Some-clause-moved g c =
    moves_none IsOfRead g.C.Connection.moved g.met.C.Connection.none c.args.self.now

pub returns-clause-moved : goal.returns-clause-moved
returns-clause-moved g c =
    moves_then IsOfRead g.C.Connection.moved g.met.C.Connection.more _ _ _ [] [] [] [] c.refill-stop.ensures.moved
    c.hear.ensures.moved
