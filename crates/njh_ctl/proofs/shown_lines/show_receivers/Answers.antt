use Rattle.njh_ctl.proofs.RowLaws.{any_more, any_none}
use Rattle.njh_ctl.proofs.shown_lines.show_receivers.Goals as goal

pub loop-place-init : goal.loop-place-init
loop-place-init c = any_none c.args.out.now

pub loop-place-preserved : goal.loop-place-preserved
loop-place-preserved c =
    any_more c.args.out.now c.loop-place.out c.show_receiver.new.out
    c.loop-place.invariant c.in_ok-show_receiver.ensures.shown
