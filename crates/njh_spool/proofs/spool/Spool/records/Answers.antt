use Rattle.std.proofs.Common.{ℕ, Ok, refl, sym, ap, ◌∙◌}
use Rattle.njh_spool.specs.declared.file_slot.FileSlot.{FileSlot}
use Rattle.njh_spool.specs.code.Slots.{is_free}
use Rattle.njh_spool.proofs.PackingLaws.{length-unpacked}
use Rattle.njh_spool.proofs.Calls.{call_on, slot_at, chain_of_file}
use Rattle.njh_spool.proofs.CallFinds as finds
use Rattle.njh_spool.proofs.spool.Spool.records.Goals as goal

pub slot_at-slot-requires : goal.slot_at-slot-requires
slot_at-slot-requires c = finds.row_fits
    (call_on c.self.inside c.args.customer c.args.id c.self.invariant (rw c.self.view_is c.requires))

pub returns-then-is_free : goal.returns-then-is_free
returns-then-is_free c =
    let here = call_on c.self.inside c.args.customer c.args.id c.self.invariant (rw c.self.view_is c.requires) in
    let same = c.slot_at-slot.ensures in
    let free = ap (λ (x : FileSlot). is_free x.stage) (sym same) ∙ sym c.is_free.ensures ∙ c.if-is_free.true in
    rw (← c.self.view_is, finds.finds_no_records here free) refl

pub returns : goal.returns
returns c =
    let here = call_on c.self.inside c.args.customer c.args.id c.self.invariant (rw c.self.view_is c.requires) in
    let same = c.slot_at-slot.ensures in
    let used' = ap (λ (x : FileSlot). is_free x.stage) (sym same) ∙ sym c.is_free.ensures ∙ c.if-is_free.false in
    rw (← c.self.view_is, finds.finds_records here used') (ap (λ (x : FileSlot). Ok x.count) same ∙ ap (λ (n : ℕ). Ok n)
    (sym (length-unpacked (slot_at here).count
    (chain_of_file here).bytes)))
