use Rattle.njh_arguments.specs.Arguments.{decode_app, serving_app}
use Rattle.njh_arguments.proofs.arguments.decoding_command.Goals as goal

pub returns : goal.returns
returns c =
    c.with_subcommand.ensures serving_app decode_app c.serving_command.ensures c.decode_command.ensures.app
    c.decode_command.ensures.local
