use Rattle.std.proofs.Common.{◌≡◌, take}
use Rattle.njh_lines.specs.Asking.{first_late}
use Rattle.njh_lines.proofs.asking.first_late.Given as goal

abbrev pub invariant-loop-guest : goal.invariant-loop-guest
invariant-loop-guest g l = l.least ≡ first_late (take l.guest-index l.guests)
