use Rattle.std.proofs.Common.{Bool, IfOk, List, map, refl, subst}
use Rattle.std.proofs.lemmas.Result.{IfOk-weaker}
use Rattle.std.specs.Prelude.{String, string_bytes}
use Rattle.std.specs.declared.alloc.Global.{Global}
use Rattle.njh_ctl.proofs.TalkLaws.{talk_of}
use Rattle.njh_ctl.specs.Orders.{TalkView}
use Rattle.njh_ctl.specs.Talks.{MessagesFound, MessagesListed}
use Rattle.njh_ctl.proofs.talk.Talk.messages_called.Goals as goal

pub returns-clause-done : goal.returns-clause-done
returns-clause-done g c =
    let r = c.messages_found.result in
    let line = c.args.line.now in
    let names = map string_bytes c.in_ok-names.names.items in
    let mid = talk_of c.names.new.self c.self.inside.teller c.self.inside.moment in
    let new = c.messages_found.new.self in
    let found : IfOk r (MessagesFound names line mid new) =
    subst (λ (list : List (String Global)). IfOk r (MessagesFound (map string_bytes list) line mid new))
    c.as_slice.ensures.value c.messages_found.ensures.done in
    let begun = talk_of c.self.inside.asker c.self.inside.teller c.self.inside.moment in
    subst (λ (old : TalkView). IfOk r (MessagesListed line old new)) c.self.view_is
    (IfOk-weaker r (MessagesFound names line mid new) (MessagesListed line begun new)
    (λ (b : Bool) (told : MessagesFound names line mid new b). record {
      names = names;
      mid = mid;
      named = record { gathered = c.in_ok-names.ensures.done; same = refl };
      told = told;
    }) found)
