use Rattle.std.proofs.Common.{◌+◌, ◌≤◌, length, take, sym, ◌∙◌, arith}
use Rattle.std.specs.Prelude.{slice_set}
use Rattle.std.proofs.lemmas.List.{length-take, length-set}
use Rattle.njh_wire.proofs.MovedLaws.{moved_one, moved_stop}
use Rattle.njh_wire.proofs.OneFrameLaws.{one_frame, still_plain}
use Rattle.njh_wire.proofs.calls.receive_one.Goals as goal

pub returns-then-may_end-clause-moved : goal.returns-then-may_end-clause-moved
returns-then-may_end-clause-moved g c =
    moved_one g.C.Connection.moved g.met.C.Connection.more _ _ _ c.loop-count.into c.loop-count.count c.in-Ok.byte
    (omega arith) c.loop-count.invariant.0 c.in-Ok.ensures.moved

pub returns-then-may_end-clause-strange : goal.returns-then-may_end-clause-strange
returns-then-may_end-clause-strange g c =
    let invariant = c.loop-count.invariant in
    let many : length (take (c.loop-count.count + 1) (slice_set c.loop-count.into c.loop-count.count c.in-Ok.byte)) ≤ 256 =
    omega (arith, length-take (c.loop-count.count + 1) (slice_set c.loop-count.into c.loop-count.count c.in-Ok.byte)) in
    (one_frame c.loop-count.into c.loop-count.count c.in-Ok.byte (omega arith) invariant.5, many)

pub loop-count-preserved : goal.loop-count-preserved
loop-count-preserved g c =
    let invariant = c.loop-count.invariant in (
      moved_one g.C.Connection.moved g.met.C.Connection.more _ _ _ c.loop-count.into c.loop-count.count c.in-Ok.byte
          (omega arith) invariant.0 c.in-Ok.ensures.moved,
      omega arith,
      omega (arith, length-set c.loop-count.into c.loop-count.count c.in-Ok.byte),
      invariant.3,
      length-set c.loop-count.into c.loop-count.count c.in-Ok.byte ∙ invariant.4,
      still_plain c.loop-count.into c.loop-count.count c.in-Ok.byte (omega arith) invariant.5
          (sym c.may_end.ensures ∙ c.if-may_end.false),
      c.in-Ok.ensures.place ∙ invariant.6,
    )

pub returns-in-Err-clause-moved : goal.returns-in-Err-clause-moved
returns-in-Err-clause-moved g c =
    moved_stop g.C.Connection.moved g.met.C.Connection.more _ _ _ _ c.loop-count.invariant.0 c.in-Err.ensures.moved
