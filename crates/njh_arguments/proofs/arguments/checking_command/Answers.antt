use Rattle.njh_arguments.specs.Arguments.{check_app, encoding_app}
use Rattle.njh_arguments.proofs.arguments.checking_command.Goals as goal

pub returns : goal.returns
returns c =
    c.with_subcommand.ensures encoding_app check_app c.encoding_command.ensures c.check_command.ensures.app
    c.check_command.ensures.local
