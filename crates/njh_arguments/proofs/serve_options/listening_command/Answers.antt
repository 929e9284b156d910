use Rattle.std.specs.Prelude.{codes}
use Rattle.njh_arguments.specs.Arguments.{addressed_app, flag_rule}
use Rattle.njh_arguments.proofs.serve_options.listening_command.Goals as goal

pub returns : goal.returns
returns c = record {
  app = c.with_option.ensures.app addressed_app (flag_rule (codes "quiet")) c.addressed_command.ensures.app
      c.flag-quiet.ensures.rule;
  local = c.with_option.ensures.local c.addressed_command.ensures.local;
}
