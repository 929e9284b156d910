use Rattle.std.proofs.Common.{◌≡◌, ap, arith, length, refl, rules}
use Rattle.njh_link.specs.Links.{LinkState, with_ack0}
use Rattle.njh_tcpwire.specs.Moves.{IsOfAnswer}
use Rattle.njh_tcpwire.specs.code.MovesLaws.{moves_none}
use Rattle.njh_tcpwire.proofs.StepLaws.{moves_acknowledged, moves_marked}
use Rattle.njh_tcpwire.proofs.connection.TcpConnection.answer.Goals as goal

pub returns-then-into-lt-ACK0-clause-moved : goal.returns-then-into-lt-ACK0-clause-moved
returns-then-into-lt-ACK0-clause-moved g c =
    moves_none IsOfAnswer g.C.Connection.moved g.met.C.Connection.none c.args.self.now

pub returns-then-not-acknowledge-clause-moved : goal.returns-then-not-acknowledge-clause-moved
returns-then-not-acknowledge-clause-moved g c =
    moves_marked IsOfAnswer g.C.Connection.moved g.met.C.Connection.none _ _ _ c.self.view_is refl (search rules) refl refl

pub returns-clause-moved : goal.returns-clause-moved
returns-clause-moved g c =
    let same : c.acknowledge.new.self ≡ with_ack0 c.self.inside.side.link = search rules in
    let long = ap (λ (link : LinkState). length link.giving) same in
    moves_acknowledged g.C.Connection.moved g.met.C.Connection.none g.met.C.Connection.more _ _ _ c.give.result _
    c.self.view_is (search rules) (omega (arith, c.give.ensures.count, long)) refl (search rules) refl (search rules) refl
