use Rattle.std.proofs.Common.{◌≡◌, map, take}
use Rattle.njh_service.proofs.viewing.waiting_of.Given as goal

-- those so far are told
abbrev pub invariant-loop-guest : goal.invariant-loop-guest
invariant-loop-guest g l = l.waiting.items ≡ map (λ guest. guest.address) (take l.guest-index l.guests)
