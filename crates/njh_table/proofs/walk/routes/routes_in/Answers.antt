use Rattle.std.proofs.Common.{◌+◌, drop, ap, sym, ◌∙◌}
use Rattle.toml.specs.View.{view, items_view}
use Rattle.njh_table.specs.declared.places.Part.TheVariants as parts
use Rattle.njh_table.specs.TableFile.{own_line}
use Rattle.njh_table.specs.Walk.{next_route, routes_onto}
use Rattle.njh_table.proofs.Loops.{turn, goes_on, ends, stops}
use Rattle.njh_table.proofs.walk.routes.routes_in.Goals as goal

pub returns-in_err-node : goal.returns-in_err-node
returns-in_err-node c =
    let find = own_line c.args.owners.now c.args.customer in
    let here = turn c.args.values.now c.loop-value.value-index c.value-item.result c.loop-value-test.true
    c.value-item.is in
    stops _ _ _ _ c.from_residual.ensures.1
    (λ _. sym c.loop-value.invariant ∙ ap (routes_onto c.args.customer c.args.hub find c.loop-value.routes) here
    ∙ ends _ _ _ (ap (λ n. next_route (parts.Route c.args.customer n) c.args.hub find c.loop-value.routes
    (view c.value-item.result)) (sym c.len.ensures)
    ∙ sym c.in_err-node.ensures.walk))

pub loop-value-preserved : goal.loop-value-preserved
loop-value-preserved c =
    let find = own_line c.args.owners.now c.args.customer in
    let rest = items_view (drop (c.loop-value.value-index + 1) c.args.values.now) in
    let here = turn c.args.values.now c.loop-value.value-index c.value-item.result c.loop-value-test.true
    c.value-item.is in
    let walked = ap (routes_onto c.args.customer c.args.hub find c.loop-value.routes) here
    ∙ goes_on _ _ _ (ap (λ n. next_route (parts.Route c.args.customer n) c.args.hub find c.loop-value.routes
    (view c.value-item.result)) (sym c.len.ensures)
    ∙ sym c.in_ok-node.ensures.walk) in
    ap (λ routes. routes_onto c.args.customer c.args.hub find routes rest) c.in_ok-insert.ensures ∙ sym walked
    ∙ c.loop-value.invariant
