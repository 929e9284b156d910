use Rattle.std.proofs.Common.{OnOk, List, map, refl, subst}
use Rattle.std.proofs.lemmas.Result.{on_ok_weaker}
use Rattle.std.specs.Prelude.{String, string_bytes}
use Rattle.std.specs.declared.alloc.Global.{Global}
use Rattle.njh_ctl.proofs.TalkLaws.{talk_of}
use Rattle.njh_ctl.specs.Chosen.{wanted_by}
use Rattle.njh_ctl.specs.Orders.{TalkView}
use Rattle.njh_ctl.specs.Talks.{FilesOf, ForEach, OfAll}
use Rattle.njh_ctl.proofs.talk.Talk.all_files.Goals as goal

pub returns-clause-done : goal.returns-clause-done
returns-clause-done g c =
    let r = c.files_of_all.result in
    let this = FilesOf (wanted_by c.args.filter) in
    let names = map string_bytes c.in_ok-names.names.items in
    let mid = talk_of c.names.new.self c.self.inside.teller c.self.inside.moment in
    let new = c.files_of_all.new.self in
    let each : OnOk r (ForEach this mid names new) =
    subst (λ (list : List (String Global)). OnOk r (ForEach this mid (map string_bytes list) new))
    c.as_slice.ensures.value c.files_of_all.ensures.done in
    subst (λ (old : TalkView). OnOk r (OfAll this old new)) c.self.view_is
    (on_ok_weaker r (λ (one : ForEach this mid names new). record {
      names = names;
      mid = mid;
      named = record { gathered = c.in_ok-names.ensures.done; same = refl };
      each = one;
    }) each)
