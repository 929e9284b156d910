use Rattle.std.proofs.Common.{refl}
use Rattle.std.proofs.lemmas.Result.{on_ok_weaker}
use Rattle.std.specs.Prelude.{codes}
use Rattle.serde_json.specs.View.{view}
use Rattle.njh_ctl.proofs.RowLaws.{grows_more}
use Rattle.njh_ctl.specs.Shown.{Adds, RowsOf}
use Rattle.njh_ctl.specs.ShownLines.{IsRefusalRow}
use Rattle.njh_ctl.proofs.shown_lines.show_callers.Goals as goal

pub returns-clause-shown : goal.returns-clause-shown
returns-clause-shown c =
    let guests = c.in_ok-show_waiting.ensures.shown in
    let mid = c.show_waiting.new.out in
    let new = c.show_refused.new.out in
    on_ok_weaker c.show_refused.result
    (λ (refusals : Adds (RowsOf (codes "refused") IsRefusalRow (view c.args.served.now)) mid new). (
      _,
      record {
        guests = guests.0;
        refusals = refusals.0;
        guests_are = guests.1;
        refusals_are = refusals.1;
        text_is = refl;
      },
      grows_more guests.0 refusals.0 c.args.out.now mid new guests.2 refusals.2,
    )) c.show_refused.ensures.shown
