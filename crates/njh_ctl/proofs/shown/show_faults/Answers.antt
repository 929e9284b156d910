use Rattle.serde_json.specs.View.{view}
use Rattle.njh_ctl.proofs.RowLaws.{HasRows-more, HasRows-none, map_take_more}
use Rattle.njh_ctl.specs.Shown.{IsFault}
use Rattle.njh_ctl.proofs.shown.show_faults.Goals as goal

pub loop-fault-init : goal.loop-fault-init
loop-fault-init c = HasRows-none IsFault c.args.out.now

pub loop-fault-preserved : goal.loop-fault-preserved
loop-fault-preserved c =
    HasRows-more IsFault _ _
    (view c.fault-item.result) c.args.out.now c.loop-fault.out c.show_fault.new.out
    c.loop-fault.invariant c.in_ok-show_fault.ensures.shown
    (map_take_more view c.args.faults.now c.loop-fault.fault-index c.fault-item.result c.loop-fault-test.true
    c.fault-item.is)
