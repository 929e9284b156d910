use Rattle.std.proofs.lemmas.Result.{on_ok_weaker}
use Rattle.njh_ctl.proofs.RowLaws.{any_more}
use Rattle.njh_ctl.proofs.shown_lines.show_troubles.Goals as goal

pub returns-clause-shown : goal.returns-clause-shown
returns-clause-shown c =
    let so_far = any_more c.args.out.now c.show_last_end.new.out c.show_tries.new.out
    c.in_ok-show_last_end.ensures.shown c.in_ok-show_tries.ensures.shown in
    on_ok_weaker c.show_repeats.result
    (any_more c.args.out.now c.show_tries.new.out c.show_repeats.new.out so_far) c.show_repeats.ensures.shown
