use Rattle.std.proofs.Common.{◌≡◌, take}
use Rattle.njh_service.specs.Bureaus.{refused_in}
use Rattle.njh_service.proofs.viewing.refused_of.Given as goal

-- those so far are told
abbrev pub invariant-loop-known : goal.invariant-loop-known
invariant-loop-known l = l.refused.items ≡ refused_in (take l.known-index l.remembered)
