use Rattle.std.proofs.Common.{◌≡◌, replicate, vec_capacity}
use Rattle.njh_spool.specs.code.Slots.{free_slot}
use Rattle.njh_spool.proofs.file_slots.FileSlots.open.Given as goal

abbrev pub invariant-loop-done : goal.invariant-loop-done
invariant-loop-done l = (l.rows.items ≡ replicate l._done (replicate 1024 free_slot))
    × (vec_capacity l.rows ≡ l.customers)
