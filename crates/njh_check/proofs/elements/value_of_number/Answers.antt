use Rattle.std.proofs.Common.{arith, Some, ap, ◌∙◌}
use Rattle.toml.specs.View.{view}
use Rattle.toml.proofs.Views.{get_item_within, get_item_past}
use Rattle.njh_check.proofs.elements.value_of_number.Goals as goal

pub returns-then-number-values : goal.returns-then-number-values
returns-then-number-values c =
    ap (λ v. Some (view v)) c.index-values-number.is
    ∙ get_item_within c.args.values.now c.args.number c.index-values-number.result (omega arith)

pub returns : goal.returns
returns c = get_item_past c.args.values.now c.args.number (omega arith)
