use Rattle.clap.specs.Words.{with_rule}
use Rattle.njh_arguments.specs.Arguments.{node_rule, owning_app, state_rule}
use Rattle.njh_arguments.proofs.ctl_options.filtering_command.Goals as goal

pub returns : goal.returns
returns c =
    let second = c.with_option-filtering.ensures.app owning_app node_rule c.owning_command.ensures.app
    c.node_option.ensures.rule in record {
      app = c.with_option.ensures.app (with_rule owning_app node_rule) state_rule second c.state_option.ensures.rule;
      local = c.with_option.ensures.local (c.with_option-filtering.ensures.local c.owning_command.ensures.local);
    }
