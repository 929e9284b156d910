use Rattle.njh_arguments.specs.Arguments.{connecting_app, owner_rule}
use Rattle.njh_arguments.proofs.ctl_options.owning_command.Goals as goal

pub returns : goal.returns
returns c = record {
  app = c.with_option.ensures.app connecting_app owner_rule c.connecting_command.ensures.app
      c.owner_option.ensures.rule;
  local = c.with_option.ensures.local c.connecting_command.ensures.local;
}
