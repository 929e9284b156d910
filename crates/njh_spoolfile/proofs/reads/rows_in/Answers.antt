use Rattle.std.proofs.Common.{◌∙◌, ap, map}
use Rattle.njh_spoolfile.specs.Kept.{record_shown, as_stands, contents_of}
use Rattle.njh_spoolfile.proofs.Loops.{read_more}
use Rattle.njh_spoolfile.proofs.reads.rows_in.Goals as goal

pub loop-row-preserved : goal.loop-row-preserved
loop-row-preserved c records is =
    ap (map contents_of) c.in_ok-push.ensures.items
    ∙ read_more record_shown as_stands contents_of c.args.rows.now c.loop-row.stored.items c.in_ok-record_in.field-0
    c.loop-row.row-index c.row-item.result c.loop-row-test.true c.row-item.is c.in_ok-record_in.ensures
    c.loop-row.invariant records
    is
