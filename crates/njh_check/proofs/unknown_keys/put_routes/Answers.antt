use Rattle.std.proofs.Common.{ℕ, List, ◌++◌, ap, ◌∙◌}
use Rattle.toml.specs.View.{table_view}
use Rattle.njh_table.specs.declared.places.Part.TheVariants as parts
use Rattle.njh_check.specs.Warnings.{part_warnings}
use Rattle.njh_check.proofs.Loops.{below_more}
use Rattle.njh_check.proofs.unknown_keys.put_routes.Goals as goal

pub loop-route-preserved : goal.loop-route-preserved
loop-route-preserved c =
    let told : ℕ → List ℕ = λ n. part_warnings (table_view c.args.document.now) (parts.Route c.args.number n) in
    c.in_ok-put_part.ensures ∙ ap (λ front. front ++ told c.loop-route.route) c.loop-route.invariant
    ∙ below_more told c.loop-route.route c.args.report.now.items
