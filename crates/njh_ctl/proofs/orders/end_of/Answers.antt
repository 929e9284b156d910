use Rattle.std.proofs.lemmas.Result.{IfOk-weaker}
use Rattle.njh_ctl.proofs.OrderLaws.{end_by, outcome_by}
use Rattle.njh_ctl.proofs.orders.end_of.Goals as goal

pub returns-in-Ok-clause-done : goal.returns-in-Ok-clause-done
returns-in-Ok-clause-done g c =
    let key = c.args.name.now in
    let old = c.args.talk.now in
    let mid = c.try_ask.new.self in
    let new = c.tell_outcome.new.talk in
    IfOk-weaker c.tell_outcome.result _ _ (λ given told.
    end_by c.args.ends_service key old new given (outcome_by key old mid new c.in-Ok.asked given c.in-Ok.ensures.done
    (record { told = c.try_ask.ensures.told; moment = c.try_ask.ensures.moment }) told
    (record { link = c.tell_outcome.ensures.link; moment = c.tell_outcome.ensures.moment })))
    c.tell_outcome.ensures.done
