use Rattle.njh_arguments.specs.Arguments.{ctl_app, filing_app}
use Rattle.njh_arguments.proofs.arguments.program_command.Goals as goal

pub returns : goal.returns
returns c =
    c.with_subcommand.ensures filing_app ctl_app c.filing_command.ensures c.ctl_command.ensures.app
    c.ctl_command.ensures.local
