use Rattle.std.proofs.Common.{[], append-nil, rules}
use Rattle.njh_io.proofs.Beginnings.{on_err_of}
use Rattle.njh_encode.proofs.EncodedSoFar.{last_bad_part, last_bad_whole, none_written}
use Rattle.njh_encode.proofs.scripts.encode_end.Goals as goal

pub returns-in_err-write_last-in-Err-BadLine-clause-begun :
    goal.returns-in_err-write_last-in-Err-BadLine-clause-begun
returns-in_err-write_last-in-Err-BadLine-clause-begun g c =
    let bad = c.in-Err-BadLine.ensures.bad c.in-Err-BadLine.fault
    (first_of (cc c.in-Err-BadLine.field-0-is, search (rules, c.in-Err-BadLine.field-0-is))) in
    on_err_of c.from_residual.result _
    (last_bad_part (g.L.Letters.texts c.args.letters.now) c.args.reading.now (g.W.Write.contents c.args.out.now)
    (g.W.Write.contents c.write_last-in-Err-BadLine.new.out) c.args.script.now.items _ c.deref-in-Err-BadLine.result.now
    c.in-Err-BadLine.fault c.requires c.deref-in-Err-BadLine.ensures.value bad.0 bad.1
    c.in_err-write_last-in-Err-BadLine.ensures.err)

pub returns-in_ok-write_last-in-Err-BadLine-clause-bad :
    goal.returns-in_ok-write_last-in-Err-BadLine-clause-bad
returns-in_ok-write_last-in-Err-BadLine-clause-bad g c = λ fault same.
    let bad = c.in-Err-BadLine.ensures.bad fault
    (first_of (search (rules, same), cc same, search (rules, same, c.in-Err-BadLine.field-0-is))) in
    last_bad_whole (g.L.Letters.texts c.args.letters.now) c.args.reading.now (g.W.Write.contents c.args.out.now)
    (g.W.Write.contents c.write_last-in-Err-BadLine.new.out) c.args.script.now.items _ c.deref-in-Err-BadLine.result.now
    fault c.requires c.deref-in-Err-BadLine.ensures.value bad.0 bad.1 c.in_ok-write_last-in-Err-BadLine.ensures.ok

pub returns-in_ok-write_last-in-Err-BadLine-clause-begun :
    goal.returns-in_ok-write_last-in-Err-BadLine-clause-begun
returns-in_ok-write_last-in-Err-BadLine-clause-begun g c =
    let bad = c.in-Err-BadLine.ensures.bad c.in-Err-BadLine.fault
    (first_of (cc c.in-Err-BadLine.field-0-is, search (rules, c.in-Err-BadLine.field-0-is))) in
    last_bad_part (g.L.Letters.texts c.args.letters.now) c.args.reading.now (g.W.Write.contents c.args.out.now)
    (g.W.Write.contents c.write_last-in-Err-BadLine.new.out) c.args.script.now.items _ c.deref-in-Err-BadLine.result.now
    c.in-Err-BadLine.fault c.requires c.deref-in-Err-BadLine.ensures.value bad.0 bad.1 (
      c.deref-in-Err-BadLine.result.now,
      [],
      append-nil c.deref-in-Err-BadLine.result.now,
      c.in_ok-write_last-in-Err-BadLine.ensures.ok,
    )

pub returns-in-Err-Device-clause-begun : goal.returns-in-Err-Device-clause-begun
returns-in-Err-Device-clause-begun g c =
    none_written (g.L.Letters.texts c.args.letters.now) c.args.reading.now (g.W.Write.contents c.args.out.now) []

pub returns-in-Err-Memory-clause-begun : goal.returns-in-Err-Memory-clause-begun
returns-in-Err-Memory-clause-begun g c =
    none_written (g.L.Letters.texts c.args.letters.now) c.args.reading.now (g.W.Write.contents c.args.out.now) []
