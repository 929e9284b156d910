use Rattle.clap.specs.Words.{with_rule}
use Rattle.njh_arguments.specs.Arguments.{console_rule, keeping_app, log_rule}
use Rattle.njh_arguments.proofs.serve_options.serve_command.Goals as goal

pub returns : goal.returns
returns c =
    let second = c.with_option-controlled.ensures.app keeping_app console_rule c.keeping_command.ensures.app
    c.console_option-console.ensures.rule in record {
      app = c.with_option.ensures.app (with_rule keeping_app console_rule) log_rule second c.log_option.ensures.rule;
      local = c.with_option.ensures.local (c.with_option-controlled.ensures.local c.keeping_command.ensures.local);
    }
