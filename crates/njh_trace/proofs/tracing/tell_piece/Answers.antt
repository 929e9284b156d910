use Rattle.njh_io.proofs.Beginnings.{on_err_of}
use Rattle.njh_trace.proofs.TracedSoFar.{written_part}
use Rattle.njh_trace.proofs.tracing.tell_piece.Goals as goal

pub returns-in_err-write_bytes-clause-begun : goal.returns-in_err-write_bytes-clause-begun
returns-in_err-write_bytes-clause-begun g c =
    on_err_of c.from_residual-in_err-write_bytes.result _
    (written_part c.args.hex (g.W.Write.contents c.args.out.now) (g.W.Write.contents c.write_bytes.new.out)
    c.args.reading.now
    c.take.new.self c.args.piece.now c.args.lines.now.items c.take.new.lines.items c.deref.result.now c.requires
    c.deref.ensures.value c.in_ok-take.ensures.taken c.in_err-write_bytes.ensures.err)
