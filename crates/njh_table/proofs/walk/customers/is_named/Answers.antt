use Rattle.std.proofs.Common.{ap, ◌∙◌}
use Rattle.std.specs.Prelude.{bytes_eq}
use Rattle.njh_table.proofs.walk.customers.is_named.Goals as goal

pub returns : goal.returns
returns c = c.eq.ensures ∙ ap (λ name. bytes_eq name c.args.name) c.name.ensures
