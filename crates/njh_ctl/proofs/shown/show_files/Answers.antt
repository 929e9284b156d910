use Rattle.serde_json.specs.View.{view}
use Rattle.njh_ctl.proofs.RowLaws.{HasRows-more, HasRows-none, map_take_more}
use Rattle.njh_ctl.specs.Shown.{IsFileRow}
use Rattle.njh_ctl.proofs.shown.show_files.Goals as goal

pub loop-file-init : goal.loop-file-init
loop-file-init c = HasRows-none (IsFileRow c.args.customer.now) c.args.out.now

pub loop-file-preserved : goal.loop-file-preserved
loop-file-preserved c =
    HasRows-more (IsFileRow c.args.customer.now) _ _
    (view c.file-item.result) c.args.out.now c.loop-file.out c.show_file.new.out
    c.loop-file.invariant c.in_ok-show_file.ensures.shown
    (map_take_more view c.args.files.now c.loop-file.file-index c.file-item.result c.loop-file-test.true
    c.file-item.is)
