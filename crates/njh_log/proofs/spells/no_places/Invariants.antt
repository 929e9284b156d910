use Rattle.std.proofs.Common.{◌≡◌, length, vec_capacity}
use Rattle.njh_log.proofs.spells.no_places.Given as goal

abbrev pub invariant-loop-done : goal.invariant-loop-done
invariant-loop-done l = (length l.places.items ≡ l._done) × (vec_capacity l.places ≡ 321)
