use Rattle.std.specs.Prelude.{codes}
use Rattle.clap.specs.Words.{with_rule}
use Rattle.njh_arguments.specs.Arguments.{command_rule, flag_rule, flagged_app}
use Rattle.njh_arguments.proofs.ctl_options.ctl_command.Goals as goal

pub returns : goal.returns
returns c =
    let idle = flag_rule (codes "when-idle") in
    let second = c.with_option-timed.ensures.app flagged_app idle c.flagged_command.ensures.app
    c.flag-when_idle.ensures.rule in record {
      app = c.with_option.ensures.app (with_rule flagged_app idle) command_rule second c.command_words.ensures.rule;
      local = c.with_option.ensures.local (c.with_option-timed.ensures.local c.flagged_command.ensures.local);
    }
