use Rattle.std.proofs.Common.{IfOk, List, OnOk, map, refl, subst}
use Rattle.std.proofs.lemmas.Result.{on_ok_weaker}
use Rattle.std.specs.List.{list_any}
use Rattle.std.specs.Prelude.{String, bytes_eq, string_bytes}
use Rattle.std.specs.declared.alloc.Global.{Global}
use Rattle.njh_ctl.proofs.TalkLaws.{found_told, talk_of}
use Rattle.njh_ctl.specs.Orders.{TalkView}
use Rattle.njh_ctl.specs.Talks.{LinesFound, LinesNamed, NameListed}
use Rattle.njh_ctl.proofs.talk.Talk.lines_called.Goals as goal

pub returns-clause-done : goal.returns-clause-done
returns-clause-done g c =
    let r = c.lines_named.result in
    let name = c.args.name.now in
    let names = map string_bytes c.in_ok-names.names.items in
    let is_one = list_any (λ n. bytes_eq n name) names in
    let mid = talk_of c.names.new.self c.self.inside.teller c.self.inside.moment in
    let new = c.lines_named.new.self in
    let found : IfOk r (LinesFound is_one names name mid new) =
    subst (λ (list : List (String Global)). IfOk r (LinesFound (list_any (λ n. bytes_eq n name) (map string_bytes list))
    (map string_bytes list) name mid new)) c.as_slice.ensures.value c.lines_named.ensures.done in
    subst (λ (old : TalkView). OnOk r (NameListed name old new)) c.self.view_is
    (on_ok_weaker r (λ (told : LinesNamed is_one names name mid new). record {
      names = names;
      mid = mid;
      named = record { gathered = c.in_ok-names.ensures.done; same = refl };
      told = told;
    }) (found_told r is_one names name mid new found))
