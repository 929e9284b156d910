use Rattle.std.proofs.Common.{◌≡◌, ◌+◌, ◌∷◌, [], length, drop}
use Rattle.njh_table.specs.NewRoutes.{checked_from, new_routes_of}
use Rattle.njh_table.proofs.new_routes.check_each.Given as goal

abbrev pub invariant-loop-route : goal.invariant-loop-route
invariant-loop-route l = record {
  count : length l.taken ≡ l.route-index + 1;
  rest
      : checked_from (length l.customer.lines) l.taken (new_routes_of l.number (drop l.route-index l.routes))
      ≡ checked_from (length l.customer.lines) (l.customer.hub ∷ []) (new_routes_of l.number l.routes);
}
