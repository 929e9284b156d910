use Rattle.std.proofs.Common.{rules, Some}
use Rattle.njh_io.proofs.{Beginnings.on_err_of, PieceLaws.{end_read, piece_read}}
use Rattle.njh_encode.proofs.EncodedSoFar.{part-on_err, whole-on_ok}
use Rattle.njh_encode.proofs.EncodedSoFar.{IsEncoded-bad, IsEncoded-begun, IsEncoded-more, IsEncoded-part}
use Rattle.njh_encode.proofs.EncodedSoFar.{IsEncoded-whole}
use Rattle.njh_encode.proofs.scripts.encode_all.Goals as goal

pub returns-in_err-read_piece-clause-begun : goal.returns-in_err-read_piece-clause-begun
returns-in_err-read_piece-clause-begun g c =
    on_err_of c.from_residual.result _
    (IsEncoded-begun (g.L.Letters.texts c.args.letters.now) (g.R.Read.remaining c.args.input.now)
    (g.R.Read.remaining c.loop.input)
    (g.W.Write.contents c.args.out.now) (g.W.Write.contents c.loop.out) c.loop.reading c.loop.invariant.encoded)

pub returns-in-None-clause-done : goal.returns-in-None-clause-done
returns-in-None-clause-done g c =
    let now = g.R.Read.remaining c.loop.input in
    let end = end_read c.in_ok-read_piece.field-0 now (g.R.Read.remaining c.read_piece.new.input) c.read_piece.new.piece
    c.in_ok-read_piece.ensures.taken c.in-None.is in
    whole-on_ok (g.L.Letters.texts c.args.letters.now) c.encode_end.result (g.R.Read.remaining c.args.input.now) now
    (g.W.Write.contents c.args.out.now) (g.W.Write.contents c.loop.out) (g.W.Write.contents c.encode_end.new.out)
    c.loop.reading c.loop.invariant.encoded end c.encode_end.ensures.done

pub returns-in-None-clause-bad : goal.returns-in-None-clause-bad
returns-in-None-clause-bad g c = λ fault same.
    let now = g.R.Read.remaining c.loop.input in
    let end = end_read c.in_ok-read_piece.field-0 now (g.R.Read.remaining c.read_piece.new.input) c.read_piece.new.piece
    c.in_ok-read_piece.ensures.taken c.in-None.is in
    IsEncoded-whole (g.L.Letters.texts c.args.letters.now) (g.R.Read.remaining c.args.input.now) now
    (g.W.Write.contents c.args.out.now) (g.W.Write.contents c.loop.out) (g.W.Write.contents c.encode_end.new.out)
    (Some fault) c.loop.reading c.loop.invariant.encoded end (c.encode_end.ensures.bad fault same)

pub returns-in-None-clause-begun : goal.returns-in-None-clause-begun
returns-in-None-clause-begun g c =
    let now = g.R.Read.remaining c.loop.input in
    let end = end_read c.in_ok-read_piece.field-0 now (g.R.Read.remaining c.read_piece.new.input) c.read_piece.new.piece
    c.in_ok-read_piece.ensures.taken c.in-None.is in
    part-on_err (g.L.Letters.texts c.args.letters.now) c.encode_end.result (g.R.Read.remaining c.args.input.now) now
    (g.W.Write.contents c.args.out.now) (g.W.Write.contents c.loop.out) (g.W.Write.contents c.encode_end.new.out)
    c.loop.reading c.loop.invariant.encoded end c.encode_end.ensures.begun

pub returns-in_err-encode_piece-in-Some-clause-begun :
    goal.returns-in_err-encode_piece-in-Some-clause-begun
returns-in_err-encode_piece-in-Some-clause-begun g c =
    let now = g.R.Read.remaining c.loop.input in
    let later = g.R.Read.remaining c.read_piece.new.input in
    let read = piece_read c.in_ok-read_piece.field-0 c.in-Some.count now later c.read_piece.new.piece
    c.split_at.result.0.now
    c.in_ok-read_piece.ensures.taken c.in-Some.is c.split_at.ensures.front in
    on_err_of c.from_residual-in_err-encode_piece-in-Some.result _
    (IsEncoded-part (g.L.Letters.texts c.args.letters.now) (g.R.Read.remaining c.args.input.now) now later
    (g.W.Write.contents c.args.out.now) (g.W.Write.contents c.loop.out) (g.W.Write.contents c.encode_piece.new.out)
    c.loop.reading c.split_at.result.0.now c.loop.invariant.encoded read c.in_err-encode_piece-in-Some.ensures.begun)

pub returns-in_err-encode_piece-in-Some-clause-bad :
    goal.returns-in_err-encode_piece-in-Some-clause-bad
returns-in_err-encode_piece-in-Some-clause-bad g c = λ fault same.
    let now = g.R.Read.remaining c.loop.input in
    let later = g.R.Read.remaining c.read_piece.new.input in
    let read = piece_read c.in_ok-read_piece.field-0 c.in-Some.count now later c.read_piece.new.piece
    c.split_at.result.0.now
    c.in_ok-read_piece.ensures.taken c.in-Some.is c.split_at.ensures.front in
    let bad = c.encode_piece.ensures.bad fault (first_of (search (rules, same), cc same)) in
    IsEncoded-bad (g.L.Letters.texts c.args.letters.now) (g.R.Read.remaining c.args.input.now) now later
    (g.W.Write.contents c.args.out.now) (g.W.Write.contents c.loop.out) (g.W.Write.contents c.encode_piece.new.out)
    c.loop.reading c.split_at.result.0.now bad.0 fault c.loop.invariant.encoded read bad.1 bad.2

pub loop-preserved : goal.loop-preserved
loop-preserved g c =
    let now = g.R.Read.remaining c.loop.input in
    let later = g.R.Read.remaining c.read_piece.new.input in
    let read = piece_read c.in_ok-read_piece.field-0 c.in-Some.count now later c.read_piece.new.piece
    c.split_at.result.0.now
    c.in_ok-read_piece.ensures.taken c.in-Some.is c.split_at.ensures.front in
    let lines = c.in_ok-encode_piece-in-Some.ensures.taken in
    record {
      encoded =
          IsEncoded-more (g.L.Letters.texts c.args.letters.now) (g.R.Read.remaining c.args.input.now) now later
          (g.W.Write.contents c.args.out.now) (g.W.Write.contents c.loop.out)
          (g.W.Write.contents c.encode_piece.new.out)
          c.loop.reading c.encode_piece.new.reading c.split_at.result.0.now lines.0 c.loop.invariant.encoded read
          lines.1
          lines.2;
      empty = c.in_ok-encode_piece-in-Some.ensures.empty;
    }

pub returns-clause-begun : goal.returns-clause-begun
returns-clause-begun g c =
    IsEncoded-begun (g.L.Letters.texts c.args.letters.now) (g.R.Read.remaining c.args.input.now)
    (g.R.Read.remaining c.loop.input)
    (g.W.Write.contents c.args.out.now) (g.W.Write.contents c.loop.out) c.loop.reading c.loop.invariant.encoded
