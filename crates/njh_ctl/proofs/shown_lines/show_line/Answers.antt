use Rattle.std.proofs.Common.{refl}
use Rattle.std.proofs.lemmas.Result.{on_ok_weaker}
use Rattle.njh_ctl.proofs.RowLaws.{any_more, grows_more}
use Rattle.njh_ctl.specs.Shown.{Adds}
use Rattle.njh_ctl.specs.ShownLines.{IsAny}
use Rattle.njh_ctl.proofs.shown_lines.show_line.Goals as goal

pub returns-clause-shown : goal.returns-clause-shown
returns-clause-shown c =
    let names = c.in_ok-show_names.ensures.shown in
    let served = c.in_ok-show_served.ensures.shown in
    let mid = c.show_served.new.out in
    let new = c.show_streams.new.out in
    on_ok_weaker c.show_streams.result (λ (streams : Adds IsAny c.show_below.new.out new).
    let more = any_more mid c.show_below.new.out new c.in_ok-show_below.ensures.shown streams in (
      _,
      record {
        names = names.0;
        served = served.0;
        more = more.0;
        names_are = names.1;
        served_is = served.1;
        text_is = refl;
      },
      grows_more names.0 _ c.args.out.now c.show_names.new.out new names.2
          (grows_more served.0 more.0 c.show_names.new.out mid new served.2 more.2),
    )) c.show_streams.ensures.shown
