-- What comes of a question, by its reply.
use Rattle.std.proofs.Common.{◌≡◌, Result, Ok, Err, IfOk, Some, subst, sym}
use Rattle.serde_json.specs.View.{view}
use Rattle.njh_ctl.specs.Asked.{IsAskedOf, IsAskedSo, value_of}
use Rattle.njh_ctl.specs.Exchanges.{IsHeard, Link, QuestionText, ReplyView}
use Rattle.njh_ctl.specs.declared.asker.Asked.{Asked}
use Rattle.njh_ctl.specs.declared.asker.Asked.TheVariants as asked
use Rattle.njh_ctl.specs.declared.fault.CtlFault.{CtlFault}

pub asked_so : (q : QuestionText) (old new : Link) (reply : ReplyView) (a : Asked) → IsHeard old new q reply
    → IsAskedOf reply a → IsAskedSo q old new a
asked_so q old new reply (asked.Answered answer) heard is = record {
  heard = subst (λ (r : ReplyView). IsHeard old new q r) (sym is.0) heard;
  value = subst (λ (r : ReplyView). value_of r ≡ Some (view answer.value)) (sym is.0) is.1;
}
asked_so q old new reply (asked.Refused refusal) heard is = record { reply = reply; heard = heard; why = is }

pub asked_by : (q : QuestionText) (old new : Link) (reply : ReplyView) (r : Result Asked CtlFault)
    → IsHeard old new q reply → IfOk r (IsAskedOf reply) → IfOk r (IsAskedSo q old new)
asked_by q old new reply (Ok a) heard is = asked_so q old new reply a heard is
asked_by q old new reply (Err fault) heard is = tt
