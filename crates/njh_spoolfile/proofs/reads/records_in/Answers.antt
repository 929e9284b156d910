use Rattle.std.proofs.Common.{◌∙◌, ap}
use Rattle.njh_spoolfile.specs.Kept.{contents, record_shown}
use Rattle.njh_spoolfile.proofs.Loops.{read_all_more}
use Rattle.njh_spoolfile.proofs.PackedLaws.{of_row}
use Rattle.njh_spoolfile.proofs.reads.records_in.Goals as goal

pub loop-row-preserved : goal.loop-row-preserved
loop-row-preserved c records is =
    c.in_ok-unpack.ensures
    ∙ read_all_more record_shown contents c.args.rows.now c.loop-row.row-index c.row-item.result _ _
    c.loop-row-test.true c.row-item.is (λ e this. ap of_row (c.in_ok-record_in.ensures e this))
    c.loop-row.invariant records is
