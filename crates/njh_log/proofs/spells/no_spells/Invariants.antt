use Rattle.std.proofs.Common.{◌≡◌, length, vec_capacity}
use Rattle.njh_log.proofs.spells.no_spells.Given as goal

abbrev pub invariant-loop-done : goal.invariant-loop-done
invariant-loop-done l = (length l.spells.items ≡ l._done) × (vec_capacity l.spells ≡ 5136)
