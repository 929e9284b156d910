use Rattle.std.proofs.Common.{◌≡◌, ℕ, ◌+◌, ◌*◌, ◌<◌, List, length, set, ap, ◌∙◌, arith}
use Rattle.njh_spool.specs.declared.file_slot.FileSlot.{FileSlot}
use Rattle.njh_spool.specs.code.SlotRows.{slots_in}
use Rattle.njh_spool.proofs.RowLaws.{length-slots_in, slots_in-set}
use Rattle.njh_spool.proofs.file_slots.FileSlots.set.Goals as goal

pub index_mut-requires : goal.index_mut-requires
index_mut-requires c = omega (
  arith,
  c.requires.all,
  c.from.ensures,
  length-slots_in c.self.inside.rows.items c.self.invariant,
  ap length c.self.view_is,
  c.self.inside.rows.ok.0,
)

pub set-requires : goal.set-requires
set-requires c =
    let rows = c.self.inside.rows.items in
    let within : c.from.result < length rows = omega (
      arith,
      c.requires.all,
      c.from.ensures,
      length-slots_in rows c.self.invariant,
      ap length c.self.view_is,
    ) in
    omega (
      arith,
      c.number.ensures,
      c.requires.number,
      ap length c.index_mut.ensures.value,
      c.self.invariant c.from.result c.index_mut.result.now within,
    )

pub returns : goal.returns
returns c =
    let rows = c.self.inside.rows.items in
    let row = c.index_mut.result.now in
    let within : c.from.result < length rows = omega (
      arith,
      c.requires.all,
      c.from.ensures,
      length-slots_in rows c.self.invariant,
      ap length c.self.view_is,
    ) in
    let place : 1024 * c.from.result + c.number.result ≡ 1024 * c.args.customer + c.args.id =
    omega (arith, c.from.ensures, c.number.ensures) in
    ap (λ (slots : List FileSlot). slots_in (set rows c.from.result slots))
    (c.set.ensures ∙ ap (λ (slots : List FileSlot). set slots c.number.result c.args.slot) c.index_mut.ensures.value)
    ∙ slots_in-set rows c.from.result c.number.result c.args.slot row c.self.invariant within
    (omega (arith, c.number.ensures, c.requires.number))
    ∙ ap (λ (i : ℕ). set (slots_in rows) i c.args.slot) place
    ∙ ap (λ (slots : List FileSlot). set slots (1024 * c.args.customer + c.args.id) c.args.slot) c.self.view_is
