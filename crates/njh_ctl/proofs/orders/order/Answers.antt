use Rattle.std.proofs.Common.{ap, subst, sym}
use Rattle.std.specs.Prelude.{string_bytes}
use Rattle.njh_ctl.proofs.OrderLaws.{order_why}
use Rattle.njh_ctl.specs.Asked.{refusal_view}
use Rattle.njh_ctl.specs.Orders.{IsGivenSo, order_view}
use Rattle.njh_ctl.specs.Questions.{terms_view}
use Rattle.njh_ctl.specs.declared.ending.Given.{Given}
use Rattle.njh_ctl.proofs.orders.order.Goals as goal

pub returns-in-Refused-clause-why : goal.returns-in-Refused-clause-why
returns-in-Refused-clause-why g c =
    let o = order_view c.args.order in
    let terms = terms_view c.args.terms in
    let old = c.args.talk.now in
    let new = c.give.new.talk in
    order_why o terms old new (refusal_view c.in-Refused.refusal) (string_bytes c.into_sentence.result)
    (subst (λ (given : Given). IsGivenSo o terms old new given) c.in-Refused.is c.in_ok-ending.ensures.done)
    (sym (ap string_bytes c.into_sentence.ensures))
