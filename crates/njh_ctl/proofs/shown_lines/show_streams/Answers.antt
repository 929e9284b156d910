use Rattle.std.proofs.lemmas.Result.{on_ok_weaker}
use Rattle.njh_ctl.proofs.RowLaws.{any_more}
use Rattle.njh_ctl.proofs.shown_lines.show_streams.Goals as goal

pub returns-clause-shown : goal.returns-clause-shown
returns-clause-shown c =
    let ways = any_more c.args.out.now c.show_senders.new.out c.show_receivers.new.out
    c.in_ok-show_senders.ensures.shown c.in_ok-show_receivers.ensures.shown in
    on_ok_weaker c.show_figures.result (any_more c.args.out.now c.show_receivers.new.out c.show_figures.new.out ways)
    c.show_figures.ensures.shown
