use Rattle.std.proofs.Common.{◌∙◌, ap, ap₂}
use Rattle.std.proofs.lemmas.Result.{IfOk-weaker}
use Rattle.clap.specs.Words.{App, with_subcommand}
use Rattle.njh_arguments.proofs.arguments.with_whole.Goals as goal

pub returns-in-Ok : goal.returns-in-Ok
returns-in-Ok c app sub whole_is sub_is sub_local =
    let program_is = rw c.in-Ok.is at whole_is in
    IfOk-weaker c.subcommand.result _ _
    (λ command added. added.shape sub_local ∙ ap₂ with_subcommand program_is (ap (λ (a : App). a.top) sub_is))
    c.subcommand.ensures
