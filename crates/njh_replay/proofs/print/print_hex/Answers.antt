use Rattle.std.proofs.Common.{ℕ, length-append, length-drop, length-take, sym, rules, arith}
use Rattle.std.proofs.lemmas.Grind.{common_steps}
use Rattle.std.proofs.lemmas.List.{take-append-drop}
use Rattle.njh_replay.proofs.Printing.{IsWrittenBut-more, IsWrittenBut-none, IsWrittenBut-part}
use Rattle.njh_replay.proofs.PrintedParts.{on_err_of}
use Rattle.njh_replay.proofs.print.print_hex.Goals as goal

pub loop-rest-preserved : goal.loop-rest-preserved
loop-rest-preserved g c = record {
  written =
      IsWrittenBut-more c.args.bytes.now c.loop-rest.rest.now c.split_at.result.0.now c.split_at.result.1.now
      c.encode_to_slice.new.output _ _ _ c.loop-rest.invariant.written
      (rw (c.split_at.ensures.front, c.split_at.ensures.back) (sym (take-append-drop _ _))) (search rules)
      (search rules);
  room = simp (length-append, length-drop) (omega (arith, length-take {A = ℕ}, c.encode_to_slice.auto.output));
}

pub returns-in_err-write_bytes-clause-err : goal.returns-in_err-write_bytes-clause-err
returns-in_err-write_bytes-clause-err g c =
    on_err_of c.from_residual.result _
    (IsWrittenBut-part c.args.bytes.now c.loop-rest.rest.now c.split_at.result.0.now c.split_at.result.1.now
    c.encode_to_slice.new.output _ _ _ c.loop-rest.invariant.written
    (rw (c.split_at.ensures.front, c.split_at.ensures.back) (sym (take-append-drop _ _))) (search rules)
    c.in_err-write_bytes.ensures.err)

pub returns-clause-ok : goal.returns-clause-ok
returns-clause-ok g c = IsWrittenBut-none c.args.bytes.now c.loop-rest.rest.now _ _ c.loop-rest.invariant.written
    (grind (arith, common_steps))
