use Rattle.clap.specs.Words.{with_rule}
use Rattle.njh_arguments.specs.Arguments.{compact_rule, into_rule, printing_app}
use Rattle.njh_arguments.proofs.files_options.files_command.Goals as goal

pub returns : goal.returns
returns c =
    let first = printing_app in
    let second = c.with_option-copying.ensures.app first into_rule c.printing_command.ensures.app
    c.into_option.ensures.rule in record {
      app = c.with_option.ensures.app (with_rule first into_rule) compact_rule second c.compact_option.ensures.rule;
      local = c.with_option.ensures.local (c.with_option-copying.ensures.local c.printing_command.ensures.local);
    }
