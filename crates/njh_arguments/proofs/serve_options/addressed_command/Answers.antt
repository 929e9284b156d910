use Rattle.std.specs.Prelude.{codes}
use Rattle.clap.specs.Words.{with_rule}
use Rattle.njh_arguments.specs.Arguments.{bounded_serve_app, flag_rule, listen_rule}
use Rattle.njh_arguments.proofs.serve_options.addressed_command.Goals as goal

pub returns : goal.returns
returns c =
    let first = bounded_serve_app in
    let second = c.with_option-listening.ensures.app first listen_rule c.bounded_command.ensures.app
    c.listen_option.ensures.rule in record {
      app = c.with_option.ensures.app (with_rule first listen_rule) (flag_rule (codes "strict")) second
          c.flag-strict.ensures.rule;
      local = c.with_option.ensures.local (c.with_option-listening.ensures.local c.bounded_command.ensures.local);
    }
