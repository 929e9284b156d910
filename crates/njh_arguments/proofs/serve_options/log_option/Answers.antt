use Rattle.std.specs.Prelude.{[], ◌∷◌, codes}
use Rattle.std.proofs.Common.{◌∙◌, ap}
use Rattle.clap.specs.Words.{Rule, rule_of}
use Rattle.njh_arguments.proofs.serve_options.log_option.Goals as goal

pub returns-clause-rule : goal.returns-clause-rule
returns-clause-rule c =
    ap rule_of c.default_value.ensures
    ∙ ap (λ (r : Rule). record r { defaults = codes "text" ∷ [] }) c.valued_option.ensures.rule
