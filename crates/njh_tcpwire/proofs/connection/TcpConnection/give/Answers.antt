use Rattle.std.proofs.Common.{refl, arith}
use Rattle.njh_tcpwire.specs.Moves.{IsOfRead}
use Rattle.njh_tcpwire.proofs.StepLaws.{moves_gave}
use Rattle.njh_tcpwire.proofs.connection.TcpConnection.give.Goals as goal

pub returns-clause-moved : goal.returns-clause-moved
returns-clause-moved g c =
    moves_gave IsOfRead g.C.Connection.moved g.met.C.Connection.none _ _ _ c.give-count.result _ c.self.view_is
    (λ many. tt) (omega (arith, c.give-count.ensures.count)) refl c.give-count.ensures.left refl
    c.give-count.ensures.given refl
