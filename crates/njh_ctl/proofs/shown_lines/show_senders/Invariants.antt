use Rattle.njh_ctl.specs.Shown.{Adds}
use Rattle.njh_ctl.specs.ShownLines.{IsAny}
use Rattle.njh_ctl.proofs.shown_lines.show_senders.Given as goal

abbrev pub invariant-loop-place : goal.invariant-loop-place
invariant-loop-place l = Adds IsAny l.fn.out l.out
