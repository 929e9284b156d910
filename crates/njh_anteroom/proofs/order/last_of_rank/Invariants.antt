use Rattle.std.proofs.Common.{◌≡◌, take}
use Rattle.njh_anteroom.specs.Next.{has_rank, last_place}
use Rattle.njh_anteroom.proofs.order.last_of_rank.Given as goal

abbrev pub invariant-loop-place : goal.invariant-loop-place
invariant-loop-place g l = l.last ≡ last_place (has_rank l.rank l.now l.memory) (take l.place l.guests)
