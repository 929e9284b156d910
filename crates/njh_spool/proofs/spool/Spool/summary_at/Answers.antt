use Rattle.std.proofs.Common.{Some, sym, ap, ◌∙◌}
use Rattle.njh_spool.specs.declared.file_slot.FileSlot.{FileSlot}
use Rattle.njh_spool.proofs.SummaryLaws.{summary_is, slot_summary}
use Rattle.njh_spool.proofs.Calls.{call_on}
use Rattle.njh_spool.proofs.CallFinds as finds
use Rattle.njh_spool.proofs.spool.Spool.summary_at.Goals as goal

pub slot_at-requires : goal.slot_at-requires
slot_at-requires c = finds.row_fits
    (call_on c.self.inside c.args.customer 0 c.self.invariant (rw c.self.view_is c.requires.range))

pub returns : goal.returns
returns c =
    let here = call_on c.self.inside c.args.customer c.file_at-id.result c.self.invariant
    (rw c.self.view_is c.requires.range) in
    rw (← c.self.view_is) (summary_is here c.args.index (rw c.self.view_is c.file_at-id.ensures.number)
    ∙ ap (λ (x : FileSlot). Some (slot_summary c.file_at-id.result x)) (sym c.slot_at.ensures)
    ∙ ap Some (sym c.summary.ensures))
