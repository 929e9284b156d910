use Rattle.std.proofs.Common.{◌≡◌, ◌+◌, ◌-◌, length, vec_capacity}
use Rattle.njh_spool.specs.code.SlotRows.{row_of}
use Rattle.njh_spool.proofs.slot_row.reach.Given as goal

abbrev pub invariant-loop-slots : goal.invariant-loop-slots
invariant-loop-slots l =
    (row_of l.slots.items (vec_capacity l.slots) ≡ row_of l.fn.slots.items (vec_capacity l.fn.slots))
    × (vec_capacity l.slots ≡ vec_capacity l.fn.slots)

abbrev pub decreases-loop-slots : goal.decreases-loop-slots
decreases-loop-slots l = l.number + 1 - length l.slots.items
