use Rattle.std.proofs.lemmas.Result.{on_ok_weaker}
use Rattle.std.specs.Prelude.{string_bytes}
use Rattle.std.specs.Result.{IsOkAnd}
use Rattle.njh_ctl.proofs.RowLaws.{any_by, any_more}
use Rattle.njh_ctl.specs.Shown.{Grows}
use Rattle.njh_ctl.proofs.shown_lines.show_sender.Goals as goal

pub returns-in_ok-add-in-Some-clause-shown : goal.returns-in_ok-add-in-Some-clause-shown
returns-in_ok-add-in-Some-clause-shown c =
    let mid = c.add.new.out in
    let new = c.add-in-Some.new.out in
    on_ok_weaker c.add-in-Some.result
    (λ (added : IsOkAnd c.format-in-Some.result (λ s. Grows (string_bytes s) mid new)).
    any_more c.args.out.now mid new (any_by c.format.result c.args.out.now mid c.in_ok-add-in-Some.ensures.added)
    (any_by c.format-in-Some.result mid new added)) c.add-in-Some.ensures.added
