use Rattle.std.proofs.Common.{◌++◌, [], append-nil, rules}
use Rattle.njh_io.proofs.Beginnings.{on_err_of}
use Rattle.njh_encode.proofs.EncodedSoFar.{bad_part, none_written, written_part}
use Rattle.njh_encode.proofs.scripts.encode_piece.Goals as goal

pub returns-in_err-write_bytes-in-Ok-clause-begun :
    goal.returns-in_err-write_bytes-in-Ok-clause-begun
returns-in_err-write_bytes-in-Ok-clause-begun g c =
    on_err_of c.from_residual.result _
    (written_part (g.L.Letters.texts c.args.letters.now) (g.W.Write.contents c.args.out.now)
    (g.W.Write.contents c.write_bytes.new.out) c.args.reading.now c.take.new.self c.args.piece.now
    c.args.script.now.items
    c.take.new.script.items c.deref.result.now c.requires c.deref.ensures.value c.in-Ok.ensures.taken
    c.in_err-write_bytes-in-Ok.ensures.err)

pub returns-in_err-write_last-in-Err-BadLine-clause-begun :
    goal.returns-in_err-write_last-in-Err-BadLine-clause-begun
returns-in_err-write_last-in-Err-BadLine-clause-begun g c =
    on_err_of c.from_residual-in_err-write_last-in-Err-BadLine.result _
    (bad_part (g.L.Letters.texts c.args.letters.now) (g.W.Write.contents c.args.out.now)
    (g.W.Write.contents c.write_last.new.out)
    c.args.reading.now c.args.piece.now c.args.script.now.items c.take.new.script.items
    c.deref-in-Err-BadLine.result.now
    c.in-Err-BadLine.fault c.requires c.deref-in-Err-BadLine.ensures.value
    (c.in-Err-BadLine.ensures.bad c.in-Err-BadLine.fault
    (first_of (cc c.in-Err-BadLine.field-0-is, search (rules, c.in-Err-BadLine.field-0-is))))
    c.in_err-write_last-in-Err-BadLine.ensures.err)

pub returns-in_ok-write_last-in-Err-BadLine-clause-begun :
    goal.returns-in_ok-write_last-in-Err-BadLine-clause-begun
returns-in_ok-write_last-in-Err-BadLine-clause-begun g c =
    bad_part (g.L.Letters.texts c.args.letters.now) (g.W.Write.contents c.args.out.now)
    (g.W.Write.contents c.write_last.new.out)
    c.args.reading.now c.args.piece.now c.args.script.now.items c.take.new.script.items
    c.deref-in-Err-BadLine.result.now
    c.in-Err-BadLine.fault c.requires c.deref-in-Err-BadLine.ensures.value
    (c.in-Err-BadLine.ensures.bad c.in-Err-BadLine.fault
    (first_of (cc c.in-Err-BadLine.field-0-is, search (rules, c.in-Err-BadLine.field-0-is)))) (
      c.deref-in-Err-BadLine.result.now,
      [],
      append-nil c.deref-in-Err-BadLine.result.now,
      c.in_ok-write_last-in-Err-BadLine.ensures.ok,
    )

pub returns-in-Err-Device-clause-begun : goal.returns-in-Err-Device-clause-begun
returns-in-Err-Device-clause-begun g c = λ more.
    none_written (g.L.Letters.texts c.args.letters.now) c.args.reading.now (g.W.Write.contents c.args.out.now)
    (c.args.piece.now ++ more)

pub returns-in-Err-Memory-clause-begun : goal.returns-in-Err-Memory-clause-begun
returns-in-Err-Memory-clause-begun g c = λ more.
    none_written (g.L.Letters.texts c.args.letters.now) c.args.reading.now (g.W.Write.contents c.args.out.now)
    (c.args.piece.now ++ more)
