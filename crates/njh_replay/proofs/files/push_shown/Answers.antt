use Rattle.std.proofs.Common.{arith}
use Rattle.njh_replay.proofs.FileLaws.{shown-ascii}
use Rattle.njh_replay.proofs.files.push_shown.Goals as goal

pub overflow_cast-text_of : goal.overflow_cast-text_of
overflow_cast-text_of c = rw c.text_of.ensures (omega (arith, shown-ascii))
