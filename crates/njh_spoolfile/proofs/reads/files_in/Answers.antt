use Rattle.std.proofs.Common.{◌∙◌, ap, map}
use Rattle.njh_spoolfile.specs.Kept.{file_shown, entry_of}
use Rattle.njh_spoolfile.proofs.Loops.{read_more}
use Rattle.njh_spoolfile.proofs.reads.files_in.Goals as goal

pub loop-row-preserved : goal.loop-row-preserved
loop-row-preserved c files is =
    ap (map entry_of) c.in_ok-push.ensures.items
    ∙ read_more file_shown (λ e. e) entry_of c.args.rows.now c.loop-row.stored.items c.in_ok-file_in.field-0
    c.loop-row.row-index c.row-item.result c.loop-row-test.true c.row-item.is c.in_ok-file_in.ensures
    c.loop-row.invariant files is
