use Rattle.njh_arguments.specs.Arguments.{checking_app, files_app}
use Rattle.njh_arguments.proofs.arguments.filing_command.Goals as goal

pub returns : goal.returns
returns c =
    c.with_subcommand.ensures checking_app files_app c.checking_command.ensures c.files_command.ensures.app
    c.files_command.ensures.local
