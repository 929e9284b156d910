use Rattle.std.specs.Prelude.{codes}
use Rattle.clap.specs.Words.{new_app, with_rule}
use Rattle.njh_arguments.specs.Arguments.{flag_rule, tables_rule}
use Rattle.njh_arguments.proofs.replay_options.replay_command.Goals as goal

pub returns : goal.returns
returns c =
    let first = new_app (codes "replay") in
    let second = c.with_option-replaying.ensures.app first tables_rule c.bare_replay.ensures.app
    c.tables_option.ensures.rule in record {
      app = c.with_option.ensures.app (with_rule first tables_rule) (flag_rule (codes "decode")) second
          c.flag-in_words.ensures.rule;
      local = c.with_option.ensures.local (c.with_option-replaying.ensures.local c.bare_replay.ensures.local);
    }
