use Rattle.std.proofs.Common.{◌≡◌, take}
use Rattle.njh_anteroom.specs.Next.{first_moment}
use Rattle.njh_anteroom.proofs.order.first_moment.Given as goal

abbrev pub invariant-loop-guest : goal.invariant-loop-guest
invariant-loop-guest g l = l.least ≡ first_moment l.memory (take l.guest-index l.guests)
