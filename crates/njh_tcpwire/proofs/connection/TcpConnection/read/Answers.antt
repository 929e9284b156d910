use Rattle.std.proofs.Common.{ℕ, List, [], subst, sym}
use Rattle.njh_tcpwire.specs.Moves.{IsOfRead, Moves}
use Rattle.njh_tcpwire.proofs.connection.TcpConnection.read.Goals as goal

pub returns-clause-moved : goal.returns-clause-moved
returns-clause-moved g c =
    let Gave : List ℕ → Type 0 = λ came. Moves IsOfRead g.C.Connection.moved c.args.self.now
    c.listen_and_give-count.new.self came [] in
    subst Gave (sym (c.read_of.ensures.given c.listen_and_give-count.new.into)) c.listen_and_give-count.ensures.moved
