use Rattle.std.proofs.Common.{refl, ap, ◌∙◌}
use Rattle.njh_table.specs.Entries.{lines_to}
use Rattle.njh_table.proofs.MapLaws.{lookup-routes}
use Rattle.njh_table.proofs.routes.Routes.get.Goals as goal

pub returns : goal.returns
returns c =
    c.copied.ensures ∙ c.get.ensures.value ∙ lookup-routes _ (λ a b. refl) c.args.node c.self.inside.lines.entries
    ∙ ap (λ routes. lines_to routes c.args.node) c.self.view_is
