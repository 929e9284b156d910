use Rattle.std.specs.Prelude.{codes, true}
use Rattle.std.proofs.Common.{◌≡◌, ◌∙◌, ap}
use Rattle.clap.specs.Words.{Rule, new_app, rule_of, with_rule}
use Rattle.njh_arguments.specs.Arguments.{turns_rule, wanted_tables_rule}
use Rattle.njh_arguments.proofs.serve_options.bounded_command.Goals as goal

pub returns : goal.returns
returns c =
    let first = new_app (codes "serve") in
    let wanted : rule_of c.required-tables.result ≡ wanted_tables_rule =
    ap rule_of c.required-tables.ensures ∙ ap (λ (r : Rule). record r { required = true }) c.tables_option.ensures.rule
    in
    let second = c.with_option-bounded.ensures.app first wanted_tables_rule c.bare_serve.ensures.app wanted in record {
      app = c.with_option.ensures.app (with_rule first wanted_tables_rule) turns_rule second
          c.turns_option.ensures.rule;
      local = c.with_option.ensures.local (c.with_option-bounded.ensures.local c.bare_serve.ensures.local);
    }
