use Rattle.std.proofs.Common.{Bool, refl, subst, sym}
use Rattle.std.proofs.lemmas.Result.{IfOk-weaker}
use Rattle.njh_ctl.proofs.TalkLaws.{talk_of}
use Rattle.njh_ctl.specs.Asked.{answer_view}
use Rattle.njh_ctl.specs.Orders.{TalkView}
use Rattle.njh_ctl.specs.Talks.{StatusAsked, StatusLooked, StatusTold}
use Rattle.njh_ctl.specs.declared.ending.Ending.TheVariants.{Done}
use Rattle.njh_ctl.proofs.talk.Talk.status.Goals as goal

pub returns-then-quiet-clause-done : goal.returns-then-quiet-clause-done
returns-then-quiet-clause-done g c =
    let new = talk_of c.ask.new.self c.self.inside.teller c.self.inside.moment in
    IfOk-weaker c.wrong_by.result _ _ (λ ending ends.
    subst (λ (b : Bool). StatusAsked b c.args.self.now new ending) (sym c.if-quiet.true)
    (subst (λ (old : TalkView). StatusLooked old new ending) c.self.view_is (record {
      answer = answer_view c.in_ok-answer.answer;
      understood = c.in_ok-answer.ensures.done;
      told = refl;
      ends = ends;
      moment = refl;
    }))) c.wrong_by.ensures.done

pub returns-clause-done : goal.returns-clause-done
returns-clause-done g c =
    let new = talk_of c.ask.new.self c.tell_status.new.self c.self.inside.moment in
    subst (λ (b : Bool). StatusAsked b c.args.self.now new Done) (sym c.if-quiet.false) (
      subst (λ (old : TalkView). StatusTold old new) c.self.view_is (record {
        answer = answer_view c.in_ok-answer.answer;
        understood = c.in_ok-answer.ensures.done;
        told = c.in_ok-tell_status.ensures.done;
        moment = refl;
      }),
      refl,
    )
