use Rattle.njh_arguments.specs.Arguments.{decoding_app, encode_app}
use Rattle.njh_arguments.proofs.arguments.encoding_command.Goals as goal

pub returns : goal.returns
returns c =
    c.with_subcommand.ensures decoding_app encode_app c.decoding_command.ensures c.encode_command.ensures.app
    c.encode_command.ensures.local
