use Rattle.std.proofs.Common.{◌≡◌, ℕ, Ok, length, refl, sym, ap, ◌∙◌, ◌+◌, ◌/◌}
use Rattle.njh_spool.specs.declared.file_slot.FileSlot.{FileSlot}
use Rattle.njh_spool.specs.code.Chains.{Chain, chain_at}
use Rattle.njh_spool.specs.code.Slots.{slot_of, is_whole_stage}
use Rattle.njh_spool.proofs.CallFinds as finds
use Rattle.njh_spool.proofs.Calls.{call_on}
use Rattle.njh_spool.proofs.spool.Spool.blocks.Goals as goal
use Rattle.njh_spool.proofs.spool.Spool.blocks.Goals.{After-is_whole}

pub slot_at-requires : goal.slot_at-requires
slot_at-requires c = finds.row_fits
    (call_on c.self.inside c.args.customer c.args.id c.self.invariant (rw c.self.view_is c.requires))

stage_is : (c : After-is_whole)
    → is_whole_stage (slot_of c.self.inside.slots c.args.customer c.args.id).stage ≡ c.is_whole.result
stage_is c = ap (λ (x : FileSlot). is_whole_stage x.stage) (sym c.slot_at.ensures) ∙ sym c.is_whole.ensures

pub returns-then-not-is_whole : goal.returns-then-not-is_whole
returns-then-not-is_whole c =
    let here = call_on c.self.inside c.args.customer c.args.id c.self.invariant (rw c.self.view_is c.requires) in
    let none = finds.finds_no_whole here
    (stage_is (goal.at.returns-then-not-is_whole c).After-is_whole ∙ c.if-not-is_whole.true) in
    rw (← c.self.view_is, none.none) refl

pub returns : goal.returns
returns c =
    let here = call_on c.self.inside c.args.customer c.args.id c.self.invariant (rw c.self.view_is c.requires) in
    let there = stage_is (goal.at.returns c).After-is_whole ∙ c.if-not-is_whole.false in
    let small = finds.small_whole here there in
    let found = finds.finds_whole here there in
    let chain = ap (λ (i : ℕ). chain_at i c.self.inside.store) c.place.ensures ∙ finds.chain_is here small in
    let size = c.blocks_for.ensures
    ∙ ap (λ (k : ℕ). (k + 251) / 252) (c.len.ensures.bytes ∙ ap (λ (x : Chain). length x.bytes) chain)
    ∙ finds.blocks_are here in
    rw (← c.self.view_is, found) (ap Ok size)
