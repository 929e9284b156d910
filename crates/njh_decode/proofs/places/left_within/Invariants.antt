use Rattle.std.proofs.Common.{◌≡◌, ◌-◌}
use Rattle.njh_decode.specs.Frames.{left_within}
use Rattle.njh_decode.proofs.places.left_within.Given as goal

abbrev pub invariant-loop : goal.invariant-loop
invariant-loop l = left_within (l.count - l.counter) l.rest ≡ left_within l.fn.count l.fn.bytes
