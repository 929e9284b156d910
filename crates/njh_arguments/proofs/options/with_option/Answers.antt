use Rattle.std.proofs.Common.{◌∙◌, ◌||◌, ap₂}
use Rattle.std.proofs.lemmas.Result.{IfOk-weaker}
use Rattle.clap.specs.Words.{with_rule}
use Rattle.njh_arguments.proofs.options.with_option.Goals as goal

pub returns-in-Ok-clause-app : goal.returns-in-Ok-clause-app
returns-in-Ok-clause-app c app rule whole option_is =
    let command_is = rw c.in-Ok.is at whole in
    IfOk-weaker c.arg.result _ _ (λ command added. added.shape c.requires ∙ ap₂ with_rule command_is option_is)
    c.arg.ensures

pub returns-in-Ok-clause-local : goal.returns-in-Ok-clause-local
returns-in-Ok-clause-local c whole =
    let local = rw c.in-Ok.is at whole in
    IfOk-weaker c.arg.result _ _ (λ command added. added.globals ∙ ap₂ (λ a b. a || b) local c.requires) c.arg.ensures
