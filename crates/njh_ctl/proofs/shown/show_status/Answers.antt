use Rattle.std.proofs.Common.{map, refl, rules}
use Rattle.std.proofs.lemmas.Result.{on_ok_weaker}
use Rattle.std.specs.Prelude.{string_bytes}
use Rattle.serde_json.specs.View.{view}
use Rattle.njh_ctl.proofs.RowLaws.{grows_more}
use Rattle.njh_ctl.specs.Shown.{Adds, Grows, version_text}
use Rattle.njh_ctl.specs.ShownLines.{IsAny}
use Rattle.njh_ctl.proofs.shown.show_status.Goals as goal

pub returns-clause-shown : goal.returns-clause-shown
returns-clause-shown c =
    let since = string_bytes c.in_ok-since.since in
    let front = version_text c.in_ok-version.version.now since in
    let begun : Grows front c.args.out.now c.add.new.out = search rules in
    let sums = c.in_ok-show_sums.ensures.shown in
    let bytes = c.in_ok-show_bytes.ensures.shown in
    let found = map view c.in_ok-list_in.field-0.now in
    let room = c.in_ok-show_room.ensures.shown in
    let faults = c.in_ok-show_faults.ensures.shown in
    let new = c.show_intended.new.out in
    on_ok_weaker c.show_intended.result (λ (intended : Adds IsAny c.show_faults.new.out new). (
      _,
      record {
        version = c.in_ok-version.version.now;
        since = c.in_ok-count_in.field-0;
        since_text = since;
        sums = sums.0;
        room = room.0;
        faults = found;
        faults_text = faults.0;
        intended = intended.0;
        version_is = c.in_ok-version.ensures.understood;
        since_is = c.in_ok-count_in.ensures.understood;
        sums_are = sums.1;
        faults_are = c.in_ok-list_in.ensures.understood;
        faults_text_is = faults.1;
        text_is = refl;
      },
      grows_more front _ c.args.out.now c.add.new.out new begun
          (grows_more sums.0 _ c.add.new.out c.show_sums.new.out new sums.2
          (grows_more _ _ c.show_sums.new.out c.show_bytes.new.out new bytes
          (grows_more room.0 _ c.show_bytes.new.out c.show_room.new.out new room.2
          (grows_more faults.0 intended.0 c.show_room.new.out c.show_faults.new.out new faults.2 intended.2)))),
    )) c.show_intended.ensures.shown
