use Rattle.std.proofs.lemmas.Result.{IfOk-weaker}
use Rattle.njh_ctl.proofs.OrderLaws.{outcome_by}
use Rattle.njh_ctl.proofs.orders.outcome.Goals as goal

pub returns-clause-done : goal.returns-clause-done
returns-clause-done g c =
    IfOk-weaker c.tell_outcome.result _ _ (λ given told.
    outcome_by c.args.key.now c.args.talk.now c.try_ask.new.self c.tell_outcome.new.talk c.in_ok-asked.asked given
    c.in_ok-asked.ensures.done (record { told = c.try_ask.ensures.told; moment = c.try_ask.ensures.moment }) told
    (record { link = c.tell_outcome.ensures.link; moment = c.tell_outcome.ensures.moment }))
    c.tell_outcome.ensures.done
