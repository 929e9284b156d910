use Rattle.std.proofs.Common.{[], refl, sym, subst, take, append-nil, rules}
use Rattle.std.specs.Prelude.{Ok}
use Rattle.njh_wire.specs.Moved.{bytes_given}
use Rattle.njh_wire.specs.declared.connection.ConnectionRead.{ConnectionRead}
use Rattle.njh_tcpwire.specs.Moves.{IsOfRead}
use Rattle.njh_tcpwire.specs.code.MovesLaws.{moves_none}
use Rattle.njh_tcpwire.proofs.StepLaws.{moves_received}
use Rattle.njh_tcpwire.proofs.connection.TcpConnection.refill.Goals as goal

pub returns-then-not-is_empty-clause-moved : goal.returns-then-not-is_empty-clause-moved
returns-then-not-is_empty-clause-moved g c =
    moves_none IsOfRead g.C.Connection.moved g.met.C.Connection.none c.args.self.now

pub returns-in-Ok-Bytes-clause-moved : goal.returns-in-Ok-Bytes-clause-moved
returns-in-Ok-Bytes-clause-moved g c =
    let Came : ConnectionRead → Type 0 = λ told. g.C.Connection.moved c.self.inside.inner c.receive.new.self
    (bytes_given (Ok told) c.receive.new.into) [] in
    moves_received IsOfRead g.C.Connection.moved _ _ _ (take c.in-Ok-Bytes.count c.receive.new.into) c.self.view_is
    (subst Came c.in-Ok-Bytes.field-0-is c.in-Ok-Bytes.ensures.moved) refl (search rules) refl

pub returns-in-Ok-Nothing-clause-moved : goal.returns-in-Ok-Nothing-clause-moved
returns-in-Ok-Nothing-clause-moved g c =
    let Came : ConnectionRead → Type 0 = λ told. g.C.Connection.moved c.self.inside.inner c.receive.new.self
    (bytes_given (Ok told) c.receive.new.into) [] in
    moves_received IsOfRead g.C.Connection.moved _ _ _ [] c.self.view_is
    (subst Came c.in-Ok-Nothing.field-0-is c.in-Ok-Nothing.ensures.moved) refl (sym (append-nil c.self.inside.side.unheard)) refl

pub returns-in-Ok-Paused-clause-moved : goal.returns-in-Ok-Paused-clause-moved
returns-in-Ok-Paused-clause-moved g c =
    let Came : ConnectionRead → Type 0 = λ told. g.C.Connection.moved c.self.inside.inner c.receive.new.self
    (bytes_given (Ok told) c.receive.new.into) [] in
    moves_received IsOfRead g.C.Connection.moved _ _ _ [] c.self.view_is
    (subst Came c.in-Ok-Paused.field-0-is c.in-Ok-Paused.ensures.moved) refl (sym (append-nil c.self.inside.side.unheard)) refl

pub returns-in-Ok-Ended-clause-moved : goal.returns-in-Ok-Ended-clause-moved
returns-in-Ok-Ended-clause-moved g c =
    let Came : ConnectionRead → Type 0 = λ told. g.C.Connection.moved c.self.inside.inner c.receive.new.self
    (bytes_given (Ok told) c.receive.new.into) [] in
    moves_received IsOfRead g.C.Connection.moved _ _ _ [] c.self.view_is
    (subst Came c.in-Ok-Ended.field-0-is c.in-Ok-Ended.ensures.moved) refl (sym (append-nil c.self.inside.side.unheard)) refl

pub returns-in-Ok-Refused-clause-moved : goal.returns-in-Ok-Refused-clause-moved
returns-in-Ok-Refused-clause-moved g c =
    let Came : ConnectionRead → Type 0 = λ told. g.C.Connection.moved c.self.inside.inner c.receive.new.self
    (bytes_given (Ok told) c.receive.new.into) [] in
    moves_received IsOfRead g.C.Connection.moved _ _ _ [] c.self.view_is
    (subst Came c.in-Ok-Refused.field-0-is c.in-Ok-Refused.ensures.moved) refl (sym (append-nil c.self.inside.side.unheard)) refl

pub returns-in-Err-clause-moved : goal.returns-in-Err-clause-moved
returns-in-Err-clause-moved g c =
    moves_received IsOfRead g.C.Connection.moved _ _ _ [] c.self.view_is c.in-Err.ensures.moved refl
    (sym (append-nil c.self.inside.side.unheard)) refl
