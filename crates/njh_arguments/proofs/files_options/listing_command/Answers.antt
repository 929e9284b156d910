use Rattle.std.specs.Prelude.{codes, true}
use Rattle.std.proofs.Common.{◌≡◌, ◌∙◌, ap}
use Rattle.clap.specs.Words.{Rule, new_app, rule_of, with_rule}
use Rattle.njh_arguments.specs.Arguments.{customer_rule, wanted_spool_rule}
use Rattle.njh_arguments.proofs.files_options.listing_command.Goals as goal

pub returns : goal.returns
returns c =
    let first = new_app (codes "files") in
    let wanted : rule_of c.required-spool.result ≡ wanted_spool_rule =
    ap rule_of c.required-spool.ensures ∙ ap (λ (r : Rule). record r { required = true }) c.spool_option.ensures.rule in
    let second = c.with_option-listing.ensures.app first wanted_spool_rule c.bare_files.ensures.app wanted in record {
      app = c.with_option.ensures.app (with_rule first wanted_spool_rule) customer_rule second
          c.customer_option.ensures.rule;
      local = c.with_option.ensures.local (c.with_option-listing.ensures.local c.bare_files.ensures.local);
    }
