use Rattle.std.proofs.Common.{sym}
use Rattle.njh_trace.proofs.PartLaws.{piece_of-more}
use Rattle.njh_trace.proofs.pieces.piece_of_script.Goals as goal

pub returns-in-Some : goal.returns-in-Some
returns-in-Some c =
    sym (piece_of-more c.args.word.now c.args.name.now c.args.rest.now c.in-Some.field-0.0.now c.in-Some.field-0.1.now
    c.in-Some.ensures.split)
