use Rattle.std.proofs.Common.{◌≡◌, Ok, refl, sym, ap, ◌∙◌}
use Rattle.njh_spool.specs.declared.file_slot.FileSlot.{FileSlot}
use Rattle.njh_spool.specs.code.Slots.{slot_of, is_whole_stage}
use Rattle.njh_spool.proofs.CallFinds as finds
use Rattle.njh_spool.proofs.SummaryLaws.{slot_summary, summary_numbered}
use Rattle.njh_spool.proofs.Calls.{call_on}
use Rattle.njh_spool.proofs.spool.Spool.summary.Goals as goal
use Rattle.njh_spool.proofs.spool.Spool.summary.Goals.{After-is_whole}

pub slot_at-slot-requires : goal.slot_at-slot-requires
slot_at-slot-requires c = finds.row_fits
    (call_on c.self.inside c.args.customer c.args.id c.self.invariant (rw c.self.view_is c.requires))

same_slot : (c : After-is_whole) → c.slot_at-slot.result ≡ slot_of c.self.inside.slots c.args.customer c.args.id
same_slot c = c.slot_at-slot.ensures

stage_is : (c : After-is_whole)
    → is_whole_stage (slot_of c.self.inside.slots c.args.customer c.args.id).stage ≡ c.is_whole.result
stage_is c = ap (λ (x : FileSlot). is_whole_stage x.stage) (sym (same_slot c)) ∙ sym c.is_whole.ensures

pub returns-then-not-is_whole : goal.returns-then-not-is_whole
returns-then-not-is_whole c =
    let here = call_on c.self.inside c.args.customer c.args.id c.self.invariant (rw c.self.view_is c.requires) in
    let none = finds.finds_no_whole here
    (stage_is (goal.at.returns-then-not-is_whole c).After-is_whole ∙ c.if-not-is_whole.true) in
    rw (← c.self.view_is, none.none) refl

pub returns : goal.returns
returns c =
    let here = call_on c.self.inside c.args.customer c.args.id c.self.invariant (rw c.self.view_is c.requires) in
    let step = (goal.at.returns c).After-is_whole in
    let there = stage_is step ∙ c.if-not-is_whole.false in
    let found = finds.finds_whole here there in
    let slot = ap (slot_summary c.args.id) (same_slot step) in
    rw (← c.self.view_is, found) (ap Ok (c.summary.ensures ∙ slot ∙ sym (summary_numbered here there)))
