use Rattle.std.proofs.Common.{ℕ, List, [], refl, subst, sym, take, append-nil, rules}
use Rattle.njh_tcpwire.specs.Moves.{IsOfSend}
use Rattle.njh_tcpwire.specs.code.MovesLaws.{moves_none}
use Rattle.njh_tcpwire.proofs.StepLaws.{moves_received, moves_sent}
use Rattle.njh_tcpwire.proofs.connection.TcpConnection.push.Goals as goal

pub returns-then-is_sent-clause-moved : goal.returns-then-is_sent-clause-moved
returns-then-is_sent-clause-moved g c =
    moves_none IsOfSend g.C.Connection.moved g.met.C.Connection.none c.args.self.now

pub returns-in-Ok-clause-moved : goal.returns-in-Ok-clause-moved
returns-in-Ok-clause-moved g c =
    let Went : List ℕ → Type 0 = λ l. g.C.Connection.moved c.self.inside.inner c.send.new.self [] (take c.in-Ok.count l) in
    moves_sent g.C.Connection.moved _ _ _ c.in-Ok.count c.self.view_is
    (subst Went c.waiting.ensures c.in-Ok.ensures.moved) (search rules) c.sent.ensures refl refl

pub returns-in-Err-clause-moved : goal.returns-in-Err-clause-moved
returns-in-Err-clause-moved g c =
    moves_received IsOfSend g.C.Connection.moved _ _ _ [] c.self.view_is c.in-Err.ensures.moved refl
    (sym (append-nil c.self.inside.side.unheard)) refl
