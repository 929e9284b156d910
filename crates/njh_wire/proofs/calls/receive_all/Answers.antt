use Rattle.std.proofs.Common.{[], length, subst, ◌∙◌, arith, length-append, Ok}
use Rattle.njh_wire.specs.declared.connection.ConnectionRead.{ConnectionRead}
use Rattle.njh_wire.specs.Moved.{bytes_given, IsReceived}
use Rattle.njh_wire.proofs.MovedLaws.{moved_more, moved_none}
use Rattle.njh_wire.proofs.calls.receive_all.Goals as goal

pub loop-count-preserved : goal.loop-count-preserved
loop-count-preserved g c =
    let split = c.split_at_mut-rest.ensures in
    let Came : ConnectionRead → Type 0 = λ received. g.C.Connection.moved c.loop-count.connection c.receive.new.self
    (bytes_given (Ok received) c.receive.new.into) [] in
    let Within : ConnectionRead → Type 0 = λ received. IsReceived (length c.receive.new.into) received in (
      moved_more g.C.Connection.moved g.met.C.Connection.more _ _ _ _ _ _ _ _ split.front_len split.front
          c.loop-count.invariant.0 (subst Came c.in-Ok-Bytes.field-0-is c.in-Ok-Bytes.ensures.moved),
      omega (
        arith,
        split.front_len,
        subst Within c.in-Ok-Bytes.field-0-is c.in-Ok-Bytes.ensures.within,
        length-append c.split_at_mut-rest.result.0.now c.receive.new.into,
      ),
      c.in-Ok-Bytes.ensures.place ∙ c.loop-count.invariant.2,
    )

pub returns-in-Ok-Nothing-clause-moved : goal.returns-in-Ok-Nothing-clause-moved
returns-in-Ok-Nothing-clause-moved g c =
    let split = c.split_at_mut-rest.ensures in
    let Came : ConnectionRead → Type 0 = λ received. g.C.Connection.moved c.loop-count.connection c.receive.new.self
    (bytes_given (Ok received) c.receive.new.into) [] in
    moved_none g.C.Connection.moved g.met.C.Connection.more _ _ _ _ _ _ _ split.front_len split.front
    c.loop-count.invariant.0 (subst Came c.in-Ok-Nothing.field-0-is c.in-Ok-Nothing.ensures.moved)

pub returns-in-Ok-Paused-clause-moved : goal.returns-in-Ok-Paused-clause-moved
returns-in-Ok-Paused-clause-moved g c =
    let split = c.split_at_mut-rest.ensures in
    let Came : ConnectionRead → Type 0 = λ received. g.C.Connection.moved c.loop-count.connection c.receive.new.self
    (bytes_given (Ok received) c.receive.new.into) [] in
    moved_none g.C.Connection.moved g.met.C.Connection.more _ _ _ _ _ _ _ split.front_len split.front
    c.loop-count.invariant.0 (subst Came c.in-Ok-Paused.field-0-is c.in-Ok-Paused.ensures.moved)

pub returns-in-Ok-Ended-clause-moved : goal.returns-in-Ok-Ended-clause-moved
returns-in-Ok-Ended-clause-moved g c =
    let split = c.split_at_mut-rest.ensures in
    let Came : ConnectionRead → Type 0 = λ received. g.C.Connection.moved c.loop-count.connection c.receive.new.self
    (bytes_given (Ok received) c.receive.new.into) [] in
    moved_none g.C.Connection.moved g.met.C.Connection.more _ _ _ _ _ _ _ split.front_len split.front
    c.loop-count.invariant.0 (subst Came c.in-Ok-Ended.field-0-is c.in-Ok-Ended.ensures.moved)

pub returns-in-Ok-Refused-clause-moved : goal.returns-in-Ok-Refused-clause-moved
returns-in-Ok-Refused-clause-moved g c =
    let split = c.split_at_mut-rest.ensures in
    let Came : ConnectionRead → Type 0 = λ received. g.C.Connection.moved c.loop-count.connection c.receive.new.self
    (bytes_given (Ok received) c.receive.new.into) [] in
    moved_none g.C.Connection.moved g.met.C.Connection.more _ _ _ _ _ _ _ split.front_len split.front
    c.loop-count.invariant.0 (subst Came c.in-Ok-Refused.field-0-is c.in-Ok-Refused.ensures.moved)

pub returns-in-Err-clause-moved : goal.returns-in-Err-clause-moved
returns-in-Err-clause-moved g c =
    let split = c.split_at_mut-rest.ensures in
    moved_none g.C.Connection.moved g.met.C.Connection.more _ _ _ _ _ _ _ split.front_len split.front
    c.loop-count.invariant.0 c.in-Err.ensures.moved
