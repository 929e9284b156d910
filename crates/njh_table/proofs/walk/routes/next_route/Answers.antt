use Rattle.std.proofs.Common.{◌≡◌, ℕ, ◌<◌, false, nat_le, sym, subst, ◌∙◌}
use Rattle.std.proofs.lemmas.Bool.{lt-leb}
use Rattle.njh_table.specs.Limits.{max_routes}
use Rattle.njh_table.specs.Walk.{next_route}
use Rattle.njh_table.proofs.Loops.{goes_on, ends, passes, leaves_seen}
use Rattle.njh_table.proofs.walk.routes.next_route.Goals as goal

room : {count done : ℕ} → count ≡ done → count < max_routes → nat_le max_routes done ≡ false
room {done = done} same below = lt-leb max_routes done (subst (λ n. n < max_routes) same below)

pub returns-in_err-keys-clause-walk : goal.returns-in_err-keys-clause-walk
unfolding next_route
returns-in_err-keys-clause-walk c =
    leaves_seen _ _ _ _ c.from_residual.ensures.1
    (passes _ _ _ (room c.len.ensures c.if-len-ge-MAX_ROUTES.false)
    ∙ ends _ _ _ (sym c.in_err-keys.ensures))

pub returns-in_err-node-clause-walk : goal.returns-in_err-node-clause-walk
unfolding next_route
returns-in_err-node-clause-walk c =
    leaves_seen _ _ _ _ c.from_residual-in_err-node.ensures.1
    (passes _ _ _ (room c.len.ensures c.if-len-ge-MAX_ROUTES.false)
    ∙ goes_on _ _ _ (sym c.in_ok-keys.ensures)
    ∙ ends _ _ _ (sym c.in_err-node.ensures))

pub returns-in_err-line-clause-walk : goal.returns-in_err-line-clause-walk
unfolding next_route
returns-in_err-line-clause-walk c =
    leaves_seen _ _ _ _ c.from_residual-in_err-line.ensures.1
    (passes _ _ _ (room c.len.ensures c.if-len-ge-MAX_ROUTES.false)
    ∙ goes_on _ _ _ (sym c.in_ok-keys.ensures)
    ∙ goes_on _ _ _ (sym c.in_ok-node.ensures)
    ∙ ends _ _ _ (sym c.in_err-line.ensures))

pub returns-in_err-second-clause-walk : goal.returns-in_err-second-clause-walk
unfolding next_route
returns-in_err-second-clause-walk c =
    leaves_seen _ _ _ _ c.from_residual-in_err-second.ensures.1
    (passes _ _ _ (room c.len.ensures c.if-len-ge-MAX_ROUTES.false)
    ∙ goes_on _ _ _ (sym c.in_ok-keys.ensures)
    ∙ goes_on _ _ _ (sym c.in_ok-node.ensures)
    ∙ goes_on _ _ _ (sym c.in_ok-line.ensures)
    ∙ ends _ _ _ (sym c.in_err-second.ensures))

pub returns-clause-walk : goal.returns-clause-walk
unfolding next_route
returns-clause-walk c =
    c.route_by.ensures.walk
    ∙ sym (passes _ _ _ (room c.len.ensures c.if-len-ge-MAX_ROUTES.false)
    ∙ goes_on _ _ _ (sym c.in_ok-keys.ensures)
    ∙ goes_on _ _ _ (sym c.in_ok-node.ensures)
    ∙ goes_on _ _ _ (sym c.in_ok-line.ensures)
    ∙ goes_on _ _ _ (sym c.in_ok-second.ensures))
