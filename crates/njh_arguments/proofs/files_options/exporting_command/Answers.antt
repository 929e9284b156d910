use Rattle.clap.specs.Words.{with_rule}
use Rattle.njh_arguments.specs.Arguments.{export_rule, listing_app, number_rule}
use Rattle.njh_arguments.proofs.files_options.exporting_command.Goals as goal

pub returns : goal.returns
returns c =
    let first = listing_app in
    let second = c.with_option-exporting.ensures.app first export_rule c.listing_command.ensures.app
    c.export_option.ensures.rule in record {
      app = c.with_option.ensures.app (with_rule first export_rule) number_rule second c.number_option.ensures.rule;
      local = c.with_option.ensures.local (c.with_option-exporting.ensures.local c.listing_command.ensures.local);
    }
