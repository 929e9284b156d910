use Rattle.std.proofs.Common.{ℕ, ◌<◌, List, length, get_or, ap, ◌∙◌, arith}
use Rattle.njh_spool.specs.declared.file_slot.FileSlot.{FileSlot}
use Rattle.njh_spool.specs.code.Slots.{slot_of, free_slot}
use Rattle.njh_spool.proofs.RowLaws.{length-slots_in, slot_in_row}
use Rattle.njh_spool.proofs.file_slots.FileSlots.at.Goals as goal

pub index-requires : goal.index-requires
index-requires c = omega (
  arith,
  c.requires,
  c.from.ensures,
  length-slots_in c.self.inside.rows.items c.self.invariant,
  ap length c.self.view_is,
  c.self.inside.rows.ok.0,
)

pub returns : goal.returns
returns c =
    let rows = c.self.inside.rows.items in
    let row = c.index.result.now in
    let within : c.args.customer < length rows = omega (
      arith,
      c.requires,
      length-slots_in rows c.self.invariant,
      ap length c.self.view_is,
    ) in
    c.at.ensures ∙ ap (λ (n : ℕ). get_or row n free_slot) c.number.ensures
    ∙ ap (λ (slots : List FileSlot). get_or slots c.args.id free_slot) c.index.ensures
    ∙ ap (λ (i : ℕ). get_or (get_or rows i row) c.args.id free_slot) c.from.ensures
    ∙ slot_in_row rows c.args.customer c.args.id row c.self.invariant within
    ∙ ap (λ (slots : List FileSlot). slot_of slots c.args.customer c.args.id) c.self.view_is
