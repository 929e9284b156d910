use Rattle.std.proofs.Common.{false, refl}
use Rattle.std.proofs.lemmas.Bool.{iff_false}
use Rattle.njh_answer.proofs.Telling.{line_nowhere}
use Rattle.njh_answer.proofs.lines.session_of.Goals as goal

pub returns-in-Err : goal.returns-in-Err
returns-in-Err c =
    rw (line_nowhere c.args.hub.now c.args.id (iff_false {b = false} c.in-Err.ensures.known refl)) c.nothing.ensures
