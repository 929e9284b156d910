use Rattle.njh_arguments.specs.Arguments.{listening_app, spool_rule}
use Rattle.njh_arguments.proofs.serve_options.keeping_command.Goals as goal

pub returns : goal.returns
returns c = record {
  app = c.with_option.ensures.app listening_app spool_rule c.listening_command.ensures.app
      c.spool_option-spool.ensures.rule;
  local = c.with_option.ensures.local c.listening_command.ensures.local;
}
