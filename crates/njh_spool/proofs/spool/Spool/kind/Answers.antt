use Rattle.std.proofs.Common.{Ok, refl, sym, ap, ◌∙◌}
use Rattle.njh_spool.specs.declared.file_slot.FileSlot.{FileSlot}
use Rattle.njh_spool.specs.code.Slots.{is_free}
use Rattle.njh_spool.proofs.ReadLaws.{has_file, has_no_file}
use Rattle.njh_spool.proofs.Calls.{call_on, own_at, files_at}
use Rattle.njh_spool.proofs.CallFinds as finds
use Rattle.njh_spool.proofs.spool.Spool.kind.Goals as goal

pub slot_at-slot-requires : goal.slot_at-slot-requires
slot_at-slot-requires c = finds.row_fits
    (call_on c.self.inside c.args.customer c.args.id c.self.invariant (rw c.self.view_is c.requires))

pub returns-then-is_free : goal.returns-then-is_free
returns-then-is_free c =
    let here = call_on c.self.inside c.args.customer c.args.id c.self.invariant (rw c.self.view_is c.requires) in
    let has = finds.has here in
    let same = c.slot_at-slot.ensures in
    let free = ap (λ (x : FileSlot). is_free x.stage) (sym same) ∙ sym c.is_free.ensures ∙ c.if-is_free.true in
    let none = has_no_file (own_at here)
    (files_at here) c.args.id has.own free in
    rw (← c.self.view_is, has.part, none.kind) refl

pub returns : goal.returns
returns c =
    let here = call_on c.self.inside c.args.customer c.args.id c.self.invariant (rw c.self.view_is c.requires) in
    let has = finds.has here in
    let same = c.slot_at-slot.ensures in
    let used' = ap (λ (x : FileSlot). is_free x.stage) (sym same) ∙ sym c.is_free.ensures ∙ c.if-is_free.false in
    let file = has_file (own_at here)
    (files_at here) c.args.id has.own used' in
    rw (← c.self.view_is, has.part, file.kind) (ap (λ (x : FileSlot). Ok x.kind) same)
