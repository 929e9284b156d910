use Rattle.std.proofs.Common.{ℕ, List, [], ◌∷◌, ◌++◌, ap, ◌∙◌, arith, vec_capacity}
use Rattle.njh_spool.specs.declared.file_slot.FileSlot.{FileSlot}
use Rattle.njh_spool.specs.code.Slots.{free_slot}
use Rattle.njh_spool.specs.code.SlotRows.{row_of}
use Rattle.njh_spool.proofs.RowLaws.{row_of-more}
use Rattle.njh_spool.proofs.slot_row.reach.Goals as goal

pub loop-slots-preserved : goal.loop-slots-preserved
loop-slots-preserved c =
    let written = c.loop-slots.slots.items in
    let room = vec_capacity c.loop-slots.slots in (
      ap (λ (slots : List FileSlot). row_of slots (vec_capacity c.push_free.new.slots)) c.push_free.ensures.slots
          ∙ ap (λ (k : ℕ). row_of (written ++ free_slot ∷ []) k) c.push_free.ensures.room
          ∙ row_of-more written room (omega (
            arith,
            c.len.ensures,
            c.from.ensures,
            c.loop-slots-test.true,
            c.requires,
            c.loop-slots.invariant.1,
            c.loop-slots.slots.ok.0,
          ))
          ∙ c.loop-slots.invariant.0,
      c.push_free.ensures.room ∙ c.loop-slots.invariant.1,
    )
