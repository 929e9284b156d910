use Rattle.std.specs.Prelude.{codes}
use Rattle.clap.specs.Words.{new_app, with_rule}
use Rattle.njh_arguments.specs.Arguments.{script_rule, tables_rule}
use Rattle.njh_arguments.proofs.check_options.check_command.Goals as goal

pub returns : goal.returns
returns c =
    let first = new_app (codes "check") in
    let second = c.with_option-checking.ensures.app first tables_rule c.bare_check.ensures.app
    c.tables_option.ensures.rule in record {
      app = c.with_option.ensures.app (with_rule first tables_rule) script_rule second c.script_option.ensures.rule;
      local = c.with_option.ensures.local (c.with_option-checking.ensures.local c.bare_check.ensures.local);
    }
