use Rattle.std.proofs.Common.{◌∙◌, sym, arith}
use Rattle.njh_hub.specs.WholeHub.{part}
use Rattle.njh_answer.proofs.Telling.{lines_more, value_more}
use Rattle.njh_answer.proofs.lines.line_values.Goals as goal

pub loop-number-preserved : goal.loop-number-preserved
loop-number-preserved c =
    value_more _ _ _ _ _ c.in_ok-push.ensures.items c.loop-number.invariant c.in_ok-told_line.ensures
    ∙ sym (lines_more c.args.named.now c.args.customer (part c.args.customer c.args.views.now.hub.now)
    c.args.views.now.lines.now c.args.page.first c.loop-number.number (omega arith))
