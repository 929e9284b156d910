use Rattle.std.specs.Prelude.{codes}
use Rattle.clap.specs.Words.{new_app, with_rule}
use Rattle.njh_arguments.specs.Arguments.{console_rule, flag_rule}
use Rattle.njh_arguments.proofs.ctl_options.connecting_command.Goals as goal

pub returns : goal.returns
returns c =
    let first = new_app (codes "ctl") in
    let second = c.with_option-connecting.ensures.app first console_rule c.bare_ctl.ensures.app
    c.console_option-console.ensures.rule in record {
      app = c.with_option.ensures.app (with_rule first console_rule) (flag_rule (codes "json")) second
          c.flag-json.ensures.rule;
      local = c.with_option.ensures.local (c.with_option-connecting.ensures.local c.bare_ctl.ensures.local);
    }
