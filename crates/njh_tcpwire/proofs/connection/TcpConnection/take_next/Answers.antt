use Rattle.std.proofs.Common.{ℕ, List, [], subst, arith, rules}
use Rattle.njh_tcpwire.specs.Moves.{IsOfSend, Moves}
use Rattle.njh_tcpwire.specs.code.MovesLaws.{moves_none}
use Rattle.njh_tcpwire.proofs.StepLaws.{first_taken}
use Rattle.njh_tcpwire.proofs.connection.TcpConnection.take_next.Goals as goal

pub returns-then-byte-bytes-clause-moved : goal.returns-then-byte-bytes-clause-moved
returns-then-byte-bytes-clause-moved g c =
    moves_none IsOfSend g.C.Connection.moved g.met.C.Connection.none c.args.self.now

pub returns-else-byte-bytes-clause-moved : goal.returns-else-byte-bytes-clause-moved
returns-else-byte-bytes-clause-moved g c =
    let Took : List ℕ → Type 0 = λ went. Moves IsOfSend g.C.Connection.moved c.args.self.now c.settle.new.self [] went in
    subst Took (first_taken c.args.bytes.now _ (omega arith) (search rules)) c.settle.ensures.moved
