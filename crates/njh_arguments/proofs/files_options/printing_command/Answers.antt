use Rattle.std.specs.Prelude.{codes}
use Rattle.njh_arguments.specs.Arguments.{exporting_app, flag_rule}
use Rattle.njh_arguments.proofs.files_options.printing_command.Goals as goal

pub returns : goal.returns
returns c = record {
  app = c.with_option.ensures.app exporting_app (flag_rule (codes "raw")) c.exporting_command.ensures.app
      c.flag-raw.ensures.rule;
  local = c.with_option.ensures.local c.exporting_command.ensures.local;
}
