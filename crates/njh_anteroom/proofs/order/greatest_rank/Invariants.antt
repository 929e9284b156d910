use Rattle.std.proofs.Common.{◌≡◌, take}
use Rattle.njh_anteroom.specs.Next.{greatest_rank}
use Rattle.njh_anteroom.proofs.order.greatest_rank.Given as goal

abbrev pub invariant-loop-guest : goal.invariant-loop-guest
invariant-loop-guest g l = l.greatest ≡ greatest_rank l.now l.memory (take l.guest-index l.guests)
