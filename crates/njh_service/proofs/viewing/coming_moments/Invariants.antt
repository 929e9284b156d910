use Rattle.std.proofs.Common.{◌≡◌, map, take}
use Rattle.njh_service.specs.Bureaus.{seconds_at}
use Rattle.njh_service.proofs.viewing.coming_moments.Given as goal

-- those so far are told
abbrev pub invariant-loop-stand : goal.invariant-loop-stand
invariant-loop-stand l = l.moments.items ≡ map (λ stand. seconds_at l.clock stand.since) (take l.stand-index l.stands)
