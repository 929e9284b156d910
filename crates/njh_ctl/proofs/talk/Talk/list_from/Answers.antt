use Rattle.std.proofs.Common.{refl, subst}
use Rattle.njh_ctl.proofs.TalkLaws.{talk_of}
use Rattle.njh_ctl.specs.Asked.{Understands, answer_view}
use Rattle.njh_ctl.specs.Exchanges.{QuestionText}
use Rattle.njh_ctl.specs.Lists.{list_view}
use Rattle.njh_ctl.specs.Orders.{TalkView}
use Rattle.njh_ctl.specs.Talks.{PartListed}
use Rattle.njh_ctl.proofs.talk.Talk.list_from.Goals as goal

pub returns-clause-done : goal.returns-clause-done
returns-clause-done g c =
    let new = talk_of c.ask.new.self c.tell_part.new.self c.self.inside.moment in
    let answer = answer_view c.in_ok-answer.answer in
    subst (λ (old : TalkView). PartListed (list_view c.args.list) c.args.from old new c.in_ok-next.next) c.self.view_is
    (record {
      part = answer;
      understood = subst (λ (q : QuestionText). Understands q c.self.inside.asker c.ask.new.self answer)
          c.question.ensures c.in_ok-answer.ensures.done;
      told = c.in_ok-tell_part.ensures.done;
      goes_on = c.in_ok-next.ensures.understood;
      moment = refl;
    })
