use Rattle.std.specs.Prelude.{codes}
use Rattle.clap.specs.Words.{with_rule}
use Rattle.njh_arguments.specs.Arguments.{choosing_app, flag_rule}
use Rattle.njh_arguments.proofs.ctl_options.flagged_command.Goals as goal

pub returns : goal.returns
returns c =
    let dry = flag_rule (codes "dry-run") in
    let second = c.with_option-flagged.ensures.app choosing_app dry c.choosing_command.ensures.app
    c.flag-dry_run.ensures.rule in record {
      app = c.with_option.ensures.app (with_rule choosing_app dry) (flag_rule (codes "quiet")) second
          c.flag-quiet.ensures.rule;
      local = c.with_option.ensures.local (c.with_option-flagged.ensures.local c.choosing_command.ensures.local);
    }
