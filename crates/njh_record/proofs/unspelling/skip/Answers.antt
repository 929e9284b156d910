use Rattle.std.proofs.Common.{sym, ◌∙◌}
use Rattle.njh_record.proofs.Skips.{behind-item, behind-end, behind-fault}
use Rattle.njh_record.proofs.unspelling.skip.Goals as goal

pub returns-in_default : goal.returns-in_default
returns-in_default c = sym (c.loop-part.invariant ∙ behind-fault _ _ c.in_default.ensures)

pub loop-part-preserved : goal.loop-part-preserved
loop-part-preserved c = c.loop-part.invariant ∙ behind-item _ _ _ (rw c.in-Item.is at c.in-Ok.ensures)

pub returns-in-End : goal.returns-in-End
returns-in-End c = sym (c.loop-part.invariant ∙ behind-end _ _ _ (rw c.in-End.is at c.in-Ok.ensures))
