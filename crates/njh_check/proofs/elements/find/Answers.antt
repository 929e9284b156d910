use Rattle.std.proofs.Common.{ap, ◌∙◌}
use Rattle.toml.specs.Data.{get_member}
use Rattle.toml.specs.View.{table_view}
use Rattle.toml.proofs.Views.{table_get}
use Rattle.njh_check.proofs.elements.find.Goals as goal

pub returns : goal.returns
returns c =
    table_get c.get.result c.name.result.now c.args.keys.now.entries c.get.ensures.value
    ∙ ap (λ name. get_member name (table_view c.args.keys.now)) c.name.ensures
