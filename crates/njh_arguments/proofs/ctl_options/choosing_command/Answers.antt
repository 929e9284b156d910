use Rattle.clap.specs.Words.{with_rule}
use Rattle.njh_arguments.specs.Arguments.{filtering_app, kind_rule, older_rule}
use Rattle.njh_arguments.proofs.ctl_options.choosing_command.Goals as goal

pub returns : goal.returns
returns c =
    let second = c.with_option-choosing.ensures.app filtering_app kind_rule c.filtering_command.ensures.app
    c.kind_option.ensures.rule in record {
      app = c.with_option.ensures.app (with_rule filtering_app kind_rule) older_rule second c.older_option.ensures.rule;
      local = c.with_option.ensures.local (c.with_option-choosing.ensures.local c.filtering_command.ensures.local);
    }
