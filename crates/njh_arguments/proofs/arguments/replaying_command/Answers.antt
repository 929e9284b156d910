use Rattle.njh_arguments.specs.Arguments.{bare_app, replay_app}
use Rattle.njh_arguments.proofs.arguments.replaying_command.Goals as goal

pub returns : goal.returns
returns c =
    c.with_subcommand.ensures bare_app replay_app c.bare_command.ensures c.replay_command.ensures.app
    c.replay_command.ensures.local
