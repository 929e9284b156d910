use Rattle.std.proofs.Common.{[], append-nil, refl, sym}
use Rattle.njh_tcpwire.specs.Moves.{IsOfSend}
use Rattle.njh_tcpwire.proofs.StepLaws.{moves_received}
use Rattle.njh_tcpwire.proofs.connection.TcpConnection.shut_inner.Goals as goal

pub returns-clause-moved : goal.returns-clause-moved
returns-clause-moved g c =
    moves_received IsOfSend g.C.Connection.moved _ _ _ [] c.self.view_is c.shut.ensures.moved refl
    (sym (append-nil c.self.inside.side.unheard)) refl
