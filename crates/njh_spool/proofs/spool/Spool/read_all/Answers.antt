use Rattle.std.proofs.Common.{ℕ, Ok, refl, sym, ap, ◌∙◌}
use Rattle.njh_spool.specs.declared.file_slot.FileSlot.{FileSlot}
use Rattle.njh_spool.specs.code.Chains.{Chain, chain_at}
use Rattle.njh_spool.specs.code.Packing.{unpacked_records}
use Rattle.njh_spool.specs.code.Slots.{is_free}
use Rattle.njh_spool.proofs.CallFinds as finds
use Rattle.njh_spool.proofs.IndexLaws.{small_used}
use Rattle.njh_spool.proofs.Calls.{call_on, slot_at}
use Rattle.njh_spool.proofs.spool.Spool.read_all.Goals as goal

pub slot_at-slot-requires : goal.slot_at-slot-requires
slot_at-slot-requires c = finds.row_fits
    (call_on c.self.inside c.args.customer c.args.id c.self.invariant (rw c.self.view_is c.requires))

pub returns-then-is_free : goal.returns-then-is_free
returns-then-is_free c =
    let here = call_on c.self.inside c.args.customer c.args.id c.self.invariant (rw c.self.view_is c.requires) in
    let same = c.slot_at-slot.ensures in
    let free = ap (λ (x : FileSlot). is_free x.stage) (sym same) ∙ sym c.is_free.ensures ∙ c.if-is_free.true in
    rw (← c.self.view_is, finds.finds_no_records here free) refl

pub returns : goal.returns
returns c =
    let here = call_on c.self.inside c.args.customer c.args.id c.self.invariant (rw c.self.view_is c.requires) in
    let same = c.slot_at-slot.ensures in
    let used' = ap (λ (x : FileSlot). is_free x.stage) (sym same) ∙ sym c.is_free.ensures ∙ c.if-is_free.false in
    let chain = ap (λ (i : ℕ). chain_at i c.self.inside.store) c.place.ensures ∙ finds.chain_is here
    (small_used c.self.inside.slots c.args.customer c.args.id used') in
    rw (← c.self.view_is, finds.finds_records here used') (ap Ok (c.of.ensures
    ∙ ap (λ (x : FileSlot). unpacked_records x.count (chain_at c.place.result c.self.inside.store).bytes) same
    ∙ ap (λ (x : Chain). unpacked_records (slot_at here).count x.bytes) chain))
