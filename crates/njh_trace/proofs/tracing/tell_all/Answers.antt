use Rattle.std.proofs.Common.{rules}
use Rattle.njh_io.proofs.{Beginnings.on_err_of, PieceLaws.{end_read, piece_read}}
use Rattle.njh_trace.proofs.TracedSoFar.{part-on_err, whole-on_ok}
use Rattle.njh_trace.proofs.TracedSoFar.{IsTraced-begun, IsTraced-long, IsTraced-more, IsTraced-part}
use Rattle.njh_trace.proofs.tracing.tell_all.Goals as goal

pub returns-in_err-read_piece-clause-begun : goal.returns-in_err-read_piece-clause-begun
returns-in_err-read_piece-clause-begun g c =
    on_err_of c.from_residual.result _
    (IsTraced-begun c.args.hex (g.R.Read.remaining c.args.input.now) (g.R.Read.remaining c.loop.input)
    (g.W.Write.contents c.args.out.now) (g.W.Write.contents c.loop.out) c.loop.reading c.loop.invariant.traced)

pub returns-in-None-clause-told : goal.returns-in-None-clause-told
returns-in-None-clause-told g c =
    let now = g.R.Read.remaining c.loop.input in
    let end = end_read c.in_ok-read_piece.field-0 now (g.R.Read.remaining c.read_piece.new.input) c.read_piece.new.piece
    c.in_ok-read_piece.ensures.taken c.in-None.is in
    whole-on_ok c.tell_end.result c.args.hex (g.R.Read.remaining c.args.input.now) now
    (g.W.Write.contents c.args.out.now)
    (g.W.Write.contents c.loop.out) (g.W.Write.contents c.tell_end.new.out) c.loop.reading c.loop.invariant.traced end
    c.tell_end.ensures.told

pub returns-in-None-clause-begun : goal.returns-in-None-clause-begun
returns-in-None-clause-begun g c =
    let now = g.R.Read.remaining c.loop.input in
    let end = end_read c.in_ok-read_piece.field-0 now (g.R.Read.remaining c.read_piece.new.input) c.read_piece.new.piece
    c.in_ok-read_piece.ensures.taken c.in-None.is in
    part-on_err c.tell_end.result c.args.hex (g.R.Read.remaining c.args.input.now) now
    (g.W.Write.contents c.args.out.now)
    (g.W.Write.contents c.loop.out) (g.W.Write.contents c.tell_end.new.out) c.loop.reading c.loop.invariant.traced end
    c.tell_end.ensures.begun

pub returns-in_err-tell_piece-in-Some-clause-begun :
    goal.returns-in_err-tell_piece-in-Some-clause-begun
returns-in_err-tell_piece-in-Some-clause-begun g c =
    let now = g.R.Read.remaining c.loop.input in
    let later = g.R.Read.remaining c.read_piece.new.input in
    let read = piece_read c.in_ok-read_piece.field-0 c.in-Some.count now later c.read_piece.new.piece
    c.split_at.result.0.now
    c.in_ok-read_piece.ensures.taken c.in-Some.is c.split_at.ensures.front in
    on_err_of c.from_residual-in_err-tell_piece-in-Some.result _
    (IsTraced-part c.args.hex (g.R.Read.remaining c.args.input.now) now later (g.W.Write.contents c.args.out.now)
    (g.W.Write.contents c.loop.out) (g.W.Write.contents c.tell_piece.new.out) c.loop.reading c.split_at.result.0.now
    c.loop.invariant.traced read c.in_err-tell_piece-in-Some.ensures.begun)

pub returns-in_err-tell_piece-in-Some-clause-long :
    goal.returns-in_err-tell_piece-in-Some-clause-long
returns-in_err-tell_piece-in-Some-clause-long g c = λ same.
    let now = g.R.Read.remaining c.loop.input in
    let later = g.R.Read.remaining c.read_piece.new.input in
    let read = piece_read c.in_ok-read_piece.field-0 c.in-Some.count now later c.read_piece.new.piece
    c.split_at.result.0.now
    c.in_ok-read_piece.ensures.taken c.in-Some.is c.split_at.ensures.front in
    IsTraced-long c.args.hex (g.R.Read.remaining c.args.input.now) now later (g.W.Write.contents c.args.out.now)
    (g.W.Write.contents c.loop.out) c.loop.reading c.split_at.result.0.now c.loop.invariant.traced read
    (c.tell_piece.ensures.long (first_of (search (rules, same), cc same)))

pub loop-preserved : goal.loop-preserved
loop-preserved g c =
    let now = g.R.Read.remaining c.loop.input in
    let later = g.R.Read.remaining c.read_piece.new.input in
    let read = piece_read c.in_ok-read_piece.field-0 c.in-Some.count now later c.read_piece.new.piece
    c.split_at.result.0.now
    c.in_ok-read_piece.ensures.taken c.in-Some.is c.split_at.ensures.front in
    let told = c.in_ok-tell_piece-in-Some.ensures.taken in
    record {
      traced =
          IsTraced-more c.args.hex (g.R.Read.remaining c.args.input.now) now later (g.W.Write.contents c.args.out.now)
          (g.W.Write.contents c.loop.out) (g.W.Write.contents c.tell_piece.new.out) c.loop.reading
          c.tell_piece.new.reading
          c.split_at.result.0.now told.0 c.loop.invariant.traced read told.1 told.2;
      empty = c.in_ok-tell_piece-in-Some.ensures.empty;
    }

pub returns-clause-begun : goal.returns-clause-begun
returns-clause-begun g c =
    IsTraced-begun c.args.hex (g.R.Read.remaining c.args.input.now) (g.R.Read.remaining c.loop.input)
    (g.W.Write.contents c.args.out.now) (g.W.Write.contents c.loop.out) c.loop.reading c.loop.invariant.traced
