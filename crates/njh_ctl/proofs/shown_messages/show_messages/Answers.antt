use Rattle.std.proofs.Common.{refl}
use Rattle.std.proofs.lemmas.Result.{on_ok_weaker}
use Rattle.serde_json.specs.View.{view}
use Rattle.njh_ctl.proofs.RowLaws.{grows_more}
use Rattle.njh_ctl.specs.Shown.{Adds}
use Rattle.njh_ctl.specs.ShownMessages.{IsCountsRow}
use Rattle.njh_ctl.proofs.shown_messages.show_messages.Goals as goal

pub returns-clause-shown : goal.returns-clause-shown
returns-clause-shown c =
    let name = c.in_ok-name.name.now in
    let rows = c.in_ok-show_queue.ensures.shown in
    let mid = c.show_queue.new.out in
    let new = c.show_counts.new.out in
    on_ok_weaker c.show_counts.result
    (λ (counts : Adds (IsCountsRow c.args.customer.now name (view c.args.line.now)) mid new). (
      _,
      record {
        line = name;
        rows = rows.0;
        counts = counts.0;
        line_is = c.in_ok-name.ensures.understood;
        rows_are = rows.1;
        counts_are = counts.1;
        text_is = refl;
      },
      grows_more rows.0 counts.0 c.args.out.now mid new rows.2 counts.2,
    )) c.show_counts.ensures.shown
