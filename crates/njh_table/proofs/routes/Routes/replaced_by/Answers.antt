use Rattle.std.proofs.Common.{ap, ◌∙◌}
use Rattle.njh_table.specs.Entries.{lines_to}
use Rattle.njh_table.proofs.NewRouteLaws.{unrouted_before}
use Rattle.njh_table.proofs.routes.Routes.replaced_by.Goals as goal

pub insert-requires : goal.insert-requires
insert-requires c =
    ap (λ routes. lines_to routes c.route-item.result.node) c.loop-route.invariant
    ∙ unrouted_before c.args.routes.now c.loop-route.route-index c.route-item.result c.requires c.loop-route-test.true
    c.route-item.is
