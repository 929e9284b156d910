use Rattle.std.proofs.Common.{ℕ, ◌<◌, List, length, set, ap, ◌∙◌, arith, vec_capacity}
use Rattle.njh_spool.specs.declared.file_slot.FileSlot.{FileSlot}
use Rattle.njh_spool.proofs.RowLaws.{row_of-set}
use Rattle.njh_spool.proofs.slot_row.SlotRow.set.Goals as goal

pub returns : goal.returns
returns c =
    let within : c.from.result < length c.reach.new.slots.items =
    omega (arith, c.from.ensures, c.reach.ensures.there) in
    row_of-set c.reach.new.slots.items (vec_capacity c.reach.new.slots) c.from.result c.args.slot within
    ∙ ap (λ (row : List FileSlot). set row c.from.result c.args.slot) (c.reach.ensures.same ∙ c.self.view_is)
    ∙ ap (λ (i : ℕ). set c.args.self.now i c.args.slot) c.from.ensures
