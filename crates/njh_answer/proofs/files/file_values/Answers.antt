use Rattle.std.proofs.Common.{◌∙◌, sym, arith}
use Rattle.njh_hub.specs.WholeHub.{part}
use Rattle.njh_arrivals.specs.Arrivals.{seen_of}
use Rattle.njh_answer.specs.Files.{file_entry}
use Rattle.njh_answer.proofs.Telling.{files_more, value_more}
use Rattle.njh_answer.proofs.files.file_values.Goals as goal

pub loop-index-preserved : goal.loop-index-preserved
loop-index-preserved c =
    let entry = file_entry c.args.lines.now (part c.args.customer c.args.views.now.hub.now).customer.entry
    (seen_of c.args.customer c.args.views.now.arrivals.now) in
    value_more _ _ _ _ _ c.in_ok-push.ensures.items c.loop-index.invariant c.in_ok-told_file.ensures
    ∙ sym (files_more entry (part c.args.customer c.args.views.now.hub.now).customer.spool c.args.page.first
    c.loop-index.index (omega arith) (omega (arith, c.requires.within)))
