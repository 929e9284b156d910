use Rattle.njh_arguments.specs.Arguments.{replaying_app, serve_app}
use Rattle.njh_arguments.proofs.arguments.serving_command.Goals as goal

pub returns : goal.returns
returns c =
    c.with_subcommand.ensures replaying_app serve_app c.replaying_command.ensures c.serve_command.ensures.app
    c.serve_command.ensures.local
