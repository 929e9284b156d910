use Rattle.std.proofs.Common.{refl}
use Rattle.std.proofs.lemmas.Result.{on_ok_weaker}
use Rattle.serde_json.specs.View.{view}
use Rattle.njh_ctl.proofs.RowLaws.{grows_more}
use Rattle.njh_ctl.specs.Shown.{Adds}
use Rattle.njh_ctl.specs.ShownLines.{AreCallers}
use Rattle.njh_ctl.proofs.shown_lines.show_session.Goals as goal

pub returns-clause-shown : goal.returns-clause-shown
returns-clause-shown c =
    let row = c.in_ok-show_row.ensures.shown in
    let troubles = c.in_ok-show_troubles.ensures.shown in
    let mid = c.show_troubles.new.out in
    let new = c.show_callers.new.out in
    on_ok_weaker c.show_callers.result (λ (callers : Adds (AreCallers (view c.args.served.now)) mid new). (
      _,
      record {
        row = row.0;
        troubles = troubles.0;
        callers = callers.0;
        row_is = row.1;
        callers_are = callers.1;
        text_is = refl;
      },
      grows_more row.0 _ c.args.out.now c.show_row.new.out new row.2
          (grows_more troubles.0 callers.0 c.show_row.new.out mid new troubles.2 callers.2),
    )) c.show_callers.ensures.shown
