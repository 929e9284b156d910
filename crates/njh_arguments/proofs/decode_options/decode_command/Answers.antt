use Rattle.std.specs.Prelude.{codes}
use Rattle.clap.specs.Words.{new_app}
use Rattle.njh_arguments.specs.Arguments.{flag_rule}
use Rattle.njh_arguments.proofs.decode_options.decode_command.Goals as goal

pub returns : goal.returns
returns c = record {
  app = c.with_option.ensures.app (new_app (codes "decode")) (flag_rule (codes "hex")) c.bare_decode.ensures.app
      c.flag-hex.ensures.rule;
  local = c.with_option.ensures.local c.bare_decode.ensures.local;
}
