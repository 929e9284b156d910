use Rattle.std.proofs.Common.{◌≡◌, ◌<◌, length, rules}
use Rattle.njh_io.proofs.PieceLaws.{read_nothing}
use Rattle.njh_io.proofs.pieces.read_piece.Goals as goal

pub returns-in-Ok-eq0 : goal.returns-in-Ok-eq0
returns-in-Ok-eq0 g c =
    let zero : c.in-Ok-eq0.field-0 ≡ 0 = search rules in
    let room : 0 < length c.read.new.buf = search rules in
    let end = read_nothing c.read.result (g.R.Read.remaining c.args.input.now) (g.R.Read.remaining c.loop.input)
    (g.R.Read.remaining c.read.new.self) c.in-Ok-eq0.field-0 c.read.new.buf c.loop.invariant c.read.ensures.bytes
    c.in-Ok-eq0.is zero room in
    record { taken = end; some = tt }
