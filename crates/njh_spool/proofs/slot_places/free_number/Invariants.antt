use Rattle.std.proofs.Common.{◌≡◌, ℕ, ◌<◌, false}
use Rattle.njh_spool.specs.code.Slots.{slot_of, is_free}
use Rattle.njh_spool.proofs.slot_places.free_number.Given as goal

abbrev pub invariant-loop-number : goal.invariant-loop-number
invariant-loop-number l = (n : ℕ) → n < l.number → is_free (slot_of l.slots l.customer n).stage ≡ false
