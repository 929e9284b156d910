use Rattle.std.proofs.lemmas.Result.{on_ok_weaker}
use Rattle.njh_ctl.proofs.RowLaws.{any_more}
use Rattle.njh_ctl.proofs.shown_lines.show_below.Goals as goal

pub returns-clause-shown : goal.returns-clause-shown
returns-clause-shown c =
    on_ok_weaker c.show_messages.result
    (any_more c.args.out.now c.show_protocol.new.out c.show_messages.new.out c.in_ok-show_protocol.ensures.shown)
    c.show_messages.ensures.shown
