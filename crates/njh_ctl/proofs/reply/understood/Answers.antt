use Rattle.std.proofs.Common.{List, ℕ, subst}
use Rattle.std.proofs.lemmas.Result.{err_from_is_err_and}
use Rattle.njh_ctl.proofs.ReplyLaws.{no_value}
use Rattle.njh_ctl.specs.Answers.{IsNoValue, json_in}
use Rattle.njh_ctl.specs.Exchanges.{reply_view}
use Rattle.njh_ctl.proofs.reply.understood.Goals as goal

pub returns-in_err-value-clause-fault : goal.returns-in_err-value-clause-fault
returns-in_err-value-clause-fault c =
    let fault = c.in_err-value.field-0.0 in
    let none = subst (λ (body : List ℕ). IsNoValue (json_in body) fault) c.as_slice.ensures.value
    c.in_err-value.ensures.refused in
    let left = err_from_is_err_and c.from_residual.result c.from_residual.ensures.1 in
    rw (left.1, left.2) (no_value (reply_view c.args.reply.now) fault none)
